-- Where the input ends with the bytes, the whole lines are all.
use Rattle.std.proofs.Common.{ap, map, ◌∙◌}
use Rattle.history_text.specs.Reading.{reading_of}
use Rattle.history_text.proofs.Numbered.{all-spans, read-spans}
use Rattle.history_text.proofs.lines.lines_of.Goals as goal

pub returns-clause-lines : goal.returns-clause-lines
returns-clause-lines c =
    all-spans c.args.bytes.now c.in_ok-whole_lines.field-0 c.in_ok-whole_lines.ensures.whole

pub returns-clause-readings : goal.returns-clause-readings
returns-clause-readings c =
    ap (map (reading_of c.args.bytes.now)) (returns-clause-lines c) ∙ read-spans c.args.bytes.now
