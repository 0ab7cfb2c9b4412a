use Rattle.std.proofs.Common.{◌≡◌, ℕ, ◌<◌, true, slice_get, Some}
use Rattle.history_model.specs.declared.operation.Operation.{Operation}
use Rattle.history_model.specs.Acts.{is_plain}
use Rattle.register_search.proofs.distinct_values.distinct.are_plain.Given as goal

abbrev pub invariant-loop-op : goal.invariant-loop-op
invariant-loop-op l =
    (k : ℕ) (a : Operation) → k < l.op-index → slice_get l.ops k ≡ Some a → is_plain a.act ≡ true
