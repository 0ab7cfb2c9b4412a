-- What a search says of a register.
use Rattle.std.specs.Prelude.{◌≡◌, ℕ, ◌-◌, ◌∷◌, List, slice_get, Some, IfSome}
use Rattle.history_model.specs.declared.operation.Operation.{Operation}
use Rattle.history_model.specs.Cut.{cut_at}
use Rattle.history_model.specs.Legal.{IsAtomic}
use Rattle.history_model.specs.Operations.{initial_write, reply_of}
use Rattle.register_search.specs.declared.forward.Found.{Found}
use Rattle.register_search.specs.declared.forward.Found.TheVariants.{Hopeless, Order, Stopped}
use Rattle.register_search.specs.declared.verdict.Verdict.{Verdict}
use Rattle.register_search.specs.declared.verdict.Verdict.TheVariants.{Yes, No, Unknown}
use Rattle.register_search.specs.Checked.{IsCheckedOrder}

-- the operation at place k replies at time t
abbrev pub RepliesAt : List Operation → ℕ → ℕ → Type 0
RepliesAt ops k t = (a : Operation) × (slice_get ops k ≡ Some a) × (reply_of a ≡ Some t)

-- What is known of register r at the reply of the operation at place k, its initial write among it, has no
-- legal order, and so neither have all its operations.
pub record IsRefuted (r : ℕ) (ops : List Operation) (k : ℕ) : Type 0 where
  pub time : ℕ
  pub replies : RepliesAt ops k time
  pub beginning : IsAtomic (cut_at time (initial_write r ∷ ops)) → ⊥
  pub whole : IsAtomic (initial_write r ∷ ops) → ⊥

-- the order, by the places of the operations, is a legal order of what is known just
-- before the reply of the operation at place k
pub record IsBefore (r : ℕ) (ops : List Operation) (k : ℕ) (order : List ℕ) : Type 0 where
  pub time : ℕ
  pub replies : RepliesAt ops k time
  pub points : List ℕ
  pub legal : IsCheckedOrder r (cut_at (time - 1) ops) order points

-- an order that was found promises nothing until it is checked, nor does a bound that was met
abbrev pub IsFound : ℕ → List Operation → Found → Type 0
IsFound r ops (Hopeless reply before) = IsRefuted r ops reply
IsFound r ops (Order order) = Unit {0}
IsFound r ops (Stopped bound) = Unit {0}

-- a yes has a legal order and its points, a no is right, as is the order
-- before it, and whoever gave up says nothing
abbrev pub IsVerdict : ℕ → List Operation → Verdict → Type 0
IsVerdict r ops (Yes order points) = IsCheckedOrder r ops order.items points.items
IsVerdict r ops (No reply before) =
    IsRefuted r ops reply × IfSome before (λ order. IsBefore r ops reply order.items)
IsVerdict r ops (Unknown bound) = Unit {0}
