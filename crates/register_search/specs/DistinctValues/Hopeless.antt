-- What has no order at a time.
use Rattle.std.specs.Prelude.{ℕ, ◌∷◌, List}
use Rattle.history_model.specs.declared.operation.Operation.{Operation}
use Rattle.history_model.specs.Cut.{cut_at}
use Rattle.history_model.specs.Legal.{IsAtomic}
use Rattle.history_model.specs.Operations.{initial_write}

-- What is known of register r at time t, its initial write among it, has no legal
-- order, and so neither have all its operations.
pub record IsHopelessAt (r : ℕ) (ops : List Operation) (t : ℕ) : Type 0 where
  pub beginning : IsAtomic (cut_at t (initial_write r ∷ ops)) → ⊥
  pub whole : IsAtomic (initial_write r ∷ ops) → ⊥
