use Rattle.std.proofs.Common.{drop}
use Rattle.history_text.specs.declared.event.Val.TheVariants.{Null}
use Rattle.history_model.specs.InTurn.{Meets}
use Rattle.register_search.specs.Timeline.{operations_at}
use Rattle.register_search.proofs.check.meets.Given as goal

abbrev pub invariant-loop-number : goal.invariant-loop-number
invariant-loop-number l =
    Meets l.value (operations_at l.ops (drop l.number-index l.order))
    → Meets Null (operations_at l.ops l.order)
