-- The merged order of a history whose registers are atomic (this project's profile; points as in Herlihy and
-- Wing, Linearizability: A Correctness Condition for Concurrent Objects, 1990, section 2).
use Rattle.std.specs.Prelude.{◌≡◌, ℕ, ◌<◌, ◌⊎◌, List, length, map, slice_get, Some}
use Rattle.std.specs.List.{flat_map}
use Rattle.history_model.specs.Lists.{In, Before}
use Rattle.history_model.specs.History.{History}
use Rattle.history_model.specs.Legal.{IsLegal}
use Rattle.history_model.specs.Operations.{operations, register_of}
use Rattle.history_model.specs.declared.operation.Operation.{Operation}
use Rattle.reg_zones.specs.Order.{IsCanonical, IsOrder, shown}
use Rattle.history_model.specs.Placed.{PlacedOperation, placed, operations_of}
use Rattle.reg_zones.specs.declared.placed.Placed.{Placed}

-- by point, then by register, then as in the register's order
abbrev pub MergesBefore : (ℕ → List Operation) → PlacedOperation → PlacedOperation → Type 0
MergesBefore orders x y = (x.point < y.point)
    ⊎ ((x.point ≡ y.point)
    × ((x.operation.register < y.operation.register)
    ⊎ ((x.operation.register ≡ y.operation.register) × Before x y (placed (orders x.operation.register)))))

-- the operations of the registers' orders with their points, ascending
pub record IsMerged (orders : ℕ → List Operation) (merged : List PlacedOperation) : Type 0 where
  pub only : (x : PlacedOperation) → In x merged → In x (placed (orders x.operation.register))
  pub all : (r : ℕ) (x : PlacedOperation) → In x (placed (orders r)) → In x merged
  pub ascending : (x y : PlacedOperation) → Before x y merged → MergesBefore orders x y

-- The merged order of a history: its registers' canonical orders, merged by their points.
-- It is a legal order of the whole history.
pub record IsWholeOrder (h : History) (merged : List PlacedOperation) : Type 0 where
  pub orders : ℕ → List Operation
  pub canonical : (r : ℕ) → IsCanonical (register_of h r) (orders r)
  pub ordered : IsMerged orders merged
  pub legal : IsLegal (operations h) (operations_of merged)

-- the canonical orders of the registers below n, by number
pub record AreFirstOrders (h : History) (n : ℕ) (orders : List (List Placed)) : Type 0 where
  pub count : length orders ≡ n
  pub each : (r : ℕ) (order : List Placed) → slice_get orders r ≡ Some order → IsOrder (register_of h r) order

-- the canonical orders of all registers
abbrev pub AreOrders : History → List (List Placed) → Type 0
AreOrders h orders = AreFirstOrders h (length h.names) orders

-- the canonical orders of the registers below n, one after another
abbrev pub AreGathered : History → ℕ → List Placed → Type 0
AreGathered h n gathered =
    (orders : List (List Placed)) × AreFirstOrders h n orders × (gathered ≡ flat_map (λ order. order) orders)

-- the merged order, by the operations' names
pub record IsMergedAnswer (h : History) (answer : List Placed) : Type 0 where
  pub merged : List PlacedOperation
  pub whole : IsWholeOrder h merged
  pub is : answer ≡ map shown merged
