-- The lines at all spans, in order, are those of the definition, and so their numbers ascend.
use Rattle.std.proofs.Common.{◌∙◌, ap, subst, sym}
use Rattle.std.specs.Prelude.{map}
use Rattle.std.proofs.lemmas.Result.{IfOk-weaker}
use Rattle.history_text.specs.Reading.{reading_of, IsAscending}
use Rattle.history_text.proofs.Ascending.{lines-ascend}
use Rattle.history_text.proofs.read.read_lines_alone.Goals as goal

pub returns-clause-ascending : goal.returns-clause-ascending
returns-clause-ascending c =
    let bytes = c.args.bytes.now in
    let read = ap (map (reading_of bytes)) c.deref.ensures.value ∙ c.in_ok-spans.ensures.readings in
    IfOk-weaker c.read_in_order.result _ _
    (λ lines e. subst IsAscending (sym (e ∙ read)) (lines-ascend bytes))
    c.read_in_order.ensures
