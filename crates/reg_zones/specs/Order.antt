-- The canonical order of a register without fault, and the point of each of its operations
-- (this project's profile; points as in Herlihy and Wing, Linearizability: A Correctness
-- Condition for Concurrent Objects, 1990, section 2).
use Rattle.std.specs.Prelude.{◌≡◌, ◌<◌, ◌≤◌, ◌⊎◌, map, true, false, List}
use Rattle.history_model.specs.Lists.{In, Before}
use Rattle.history_model.specs.Operations.{IsCompletedRead, is_write, value_of}
use Rattle.history_model.specs.declared.operation.Operation.{Operation}
use Rattle.history_model.specs.Legal.{IsLegal}
use Rattle.history_model.specs.Naming.{name_of}
use Rattle.history_model.specs.Placed.{IsWithinLife, PlacedOperation, placed}
use Rattle.reg_zones.specs.Clusters.{IsKept, low_end}
use Rattle.reg_zones.specs.declared.placed.Placed.{Placed}

-- what the canonical order lists: kept writes and completed reads
abbrev pub IsListed : List Operation → Operation → Type 0
IsListed ops a = IsKept ops a ⊎ (In a ops × IsCompletedRead a)

-- a comes sooner than b: by the low end of the cluster, then the write first, then by call
abbrev pub IsSooner : List Operation → Operation → Operation → Type 0
IsSooner ops a b = (low_end ops (value_of a) < low_end ops (value_of b))
    ⊎ ((low_end ops (value_of a) ≡ low_end ops (value_of b))
    × (((is_write a ≡ true) × (is_write b ≡ false)) ⊎ ((is_write a ≡ is_write b) × (a.call < b.call))))

-- the kept writes and the completed reads, ascending
pub record IsCanonical (ops order : List Operation) : Type 0 where
  pub listed : (a : Operation) → In a order → IsListed ops a
  pub all : (a : Operation) → IsListed ops a → In a order
  pub ascending : (a b : Operation) → Before a b order → IsSooner ops a b

-- ---- the answer

abbrev pub shown : PlacedOperation → Placed
shown x = record { oper = name_of x.operation; point = x.point }

-- The canonical order with its points, by the operations' names. It is a legal order of the completion that
-- it lists, each point lies in its operation's life, and no point falls.
pub record IsOrder (ops : List Operation) (answer : List Placed) : Type 0 where
  pub order : List Operation
  pub canonical : IsCanonical ops order
  pub legal : IsLegal ops order
  pub within : (x : PlacedOperation) → In x (placed order) → IsWithinLife x
  pub rising : (x y : PlacedOperation) → Before x y (placed order) → x.point ≤ y.point
  pub is : answer ≡ map shown (placed order)
