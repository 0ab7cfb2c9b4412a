-- The points of an order (this project's profile; points as in Herlihy and Wing, Linearizability: A
-- Correctness Condition for Concurrent Objects, 1990, section 2).
use Rattle.std.specs.Prelude.{ℕ, ◌<◌, ◌≤◌, max, map, List, [], ◌∷◌}
use Rattle.history_model.specs.declared.operation.Operation.{Operation}

-- an operation in its place of an order, with its point
pub record PlacedOperation : Type 0 where
  pub operation : Operation
  pub point : ℕ

-- the operations of an order after others of which the last call is n
abbrev pub placed_from : ℕ → List Operation → List PlacedOperation
placed_from n [] = []
placed_from n (a ∷ order) = record { operation = a; point = max n a.call } ∷ placed_from (max n a.call) order

-- each operation of an order with its point: the last call among the operations up to it, itself among them
abbrev pub placed : List Operation → List PlacedOperation
placed order = placed_from 0 order

-- the point lies at or after the call, and before the reply
pub record IsWithinLife (x : PlacedOperation) : Type 0 where
  pub called : x.operation.call ≤ x.point
  pub unreplied : x.point < x.operation.reply

-- the operations alone
abbrev pub operations_of : List PlacedOperation → List Operation
operations_of xs = map (λ x. x.operation) xs
