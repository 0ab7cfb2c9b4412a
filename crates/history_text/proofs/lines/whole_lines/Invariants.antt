-- The lines before `from` were passed.
use Rattle.std.proofs.Common.{◌-◌, length}
use Rattle.history_text.proofs.Cut.{ArePassed}
use Rattle.history_text.proofs.lines.whole_lines.Given as goal

abbrev pub invariant-loop-count : goal.invariant-loop-count
invariant-loop-count l = ArePassed l.bytes l.first l.spans.items l.line l.from

abbrev pub decreases-loop-count : goal.decreases-loop-count
decreases-loop-count l = length l.bytes - l.from
