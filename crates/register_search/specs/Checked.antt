-- What the check of an order says.
use Rattle.std.specs.Prelude.{◌≡◌, ℕ, ◌<◌, ◌∷◌, true, Bool, List, length, map, slice_get, Some}
use Rattle.history_model.specs.Lists.{In, Before}
use Rattle.history_model.specs.declared.operation.Operation.{Operation}
use Rattle.history_model.specs.Legal.{IsLegal}
use Rattle.history_model.specs.Operations.{IsCompleted, initial_write}
use Rattle.history_model.specs.Placed.{PlacedOperation, placed}
use Rattle.register_search.specs.Timeline.{operations_at}

-- the order has each place once at most, all below a count, and what is marked is in the order
pub record IsMarked (count : ℕ) (order : List ℕ) (marks : List Bool) : Type 0 where
  pub once : (k : ℕ) → Before k k order → ⊥
  pub within : (k : ℕ) → In k order → k < count
  pub there : (k : ℕ) → slice_get marks k ≡ Some true → In k order

-- the points of an order, each of which comes before the operation's reply
pub record ArePoints (order : List Operation) (points : List ℕ) : Type 0 where
  pub is : points ≡ map (λ (x : PlacedOperation). x.point) (placed order)
  pub unreplied : (x : PlacedOperation) → In x (placed order) → IsCompleted x.operation
      → x.point < x.operation.reply

-- the order, by the places of the operations, and its points: with the initial write of
-- register r before it, it is a legal order
pub record IsCheckedOrder (r : ℕ) (ops : List Operation) (order points : List ℕ) : Type 0 where
  pub within : (k : ℕ) → In k order → k < length ops
  pub legal : IsLegal (initial_write r ∷ ops) (initial_write r ∷ operations_at ops order)
  pub points_are : ArePoints (operations_at ops order) points
