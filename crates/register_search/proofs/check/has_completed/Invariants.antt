use Rattle.std.proofs.Common.{◌≡◌, ℕ, ◌<◌, true, slice_get, Some}
use Rattle.history_model.specs.declared.operation.Operation.{Operation}
use Rattle.history_model.specs.Operations.{IsCompleted}
use Rattle.register_search.proofs.check.has_completed.Given as goal

abbrev pub invariant-loop-place : goal.invariant-loop-place
invariant-loop-place l =
    (k : ℕ) (a : Operation) → k < l.place → slice_get l.ops k ≡ Some a → IsCompleted a
    → slice_get l.marks k ≡ Some true
