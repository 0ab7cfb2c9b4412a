-- Walks along the operations of a history, each after those that it learns of at once (this project's own
-- words).
use Rattle.std.specs.Prelude.{◌≡◌, ℕ, ◌+◌, ◌*◌, ◌^◌, ◌<◌, ◌≤◌, List, length, Option}
use Rattle.history_model.specs.declared.operation.Operation.{Operation}
use Rattle.reg_levels.specs.declared.order_graph.edge.Edge.{Edge}
use Rattle.causal_order.specs.SessionClocks.Clocks.{AreClocks}
use Rattle.causal_order.specs.SessionClocks.WriteIndex.{IsWriteIndex}
use Rattle.causal_order.specs.declared.session_clocks.table.SessionTable.{SessionTable}
use Rattle.causal_order.specs.CausalGraph.{IsCausalGraph, Keeps}
use Rattle.causal_order.specs.Covering.{AreSettled, IsSettled, IsStale}
use Rattle.causal_order.specs.declared.graph.CausalGraph.{CausalGraph}
use Rattle.causal_order.specs.declared.walk.LearningWalk.{LearningWalk}
use Rattle.causal_order.specs.declared.walk.Walked.{Walked}
use Rattle.causal_order.specs.declared.walk.Walked.TheVariants.{Whole, Stale, Beyond}

-- a walk along the order after t turns, and, if `now` is there, after the operation at that place was taken
pub record IsWalk (ops : List Operation) (table : SessionTable) (order : List ℕ) (t : ℕ) (now : Option ℕ)
    (walk : LearningWalk) : Type 0 where
  pub index : IsWriteIndex ops table walk.index
  pub clocks : AreClocks ops table order t now walk.clocks

-- only the graph may differ
pub record IsSameWalk (old new : LearningWalk) : Type 0 where
  pub index : new.index ≡ old.index
  pub clocks : new.clocks ≡ old.clocks

-- the graph has no more edges than its bound allows
abbrev pub IsSmall : List Edge → Type 0
IsSmall edges = length edges ≤ 2 ^ 25

-- the graph settles all reads
abbrev pub AreAllSettled : List Operation → SessionTable → List Edge → Type 0
AreAllSettled ops table edges = (p : ℕ) → p < length ops → IsSettled ops table edges p

-- The graph has what the old one has, and settles all reads of the order; or a read is stale; or there are
-- many operations.
abbrev pub IsWalked : List Operation → SessionTable → List ℕ → CausalGraph → Walked → Type 0
IsWalked ops table order old (Whole new) =
    (IsCausalGraph ops old → IsCausalGraph ops new) × Keeps old.edges.items new.edges.items
    × AreSettled ops table new.edges.items order (length order) × IsSmall new.edges.items
IsWalked ops table order old (Stale q p) = IsStale ops table q p
IsWalked ops table order old Beyond = 2 ^ 25 < (table.count + 2) * length ops
