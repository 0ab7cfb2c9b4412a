use Rattle.std.proofs.Common.{◌≡◌, ℕ, ◌<◌, slice_get, Some}
use Rattle.history_model.specs.declared.operation.Operation.{Operation}
use Rattle.register_search.specs.Unwritten.{IsUnwritten}
use Rattle.register_search.proofs.unwritten.first_unwritten.Given as goal

abbrev pub invariant-loop-place : goal.invariant-loop-place
invariant-loop-place l =
    (j : ℕ) (a : Operation) → j < l.place → slice_get l.ops j ≡ Some a → IsUnwritten l.ops a → ⊥
