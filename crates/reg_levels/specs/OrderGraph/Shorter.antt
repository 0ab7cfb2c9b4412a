-- A search back along the edges, the nearest nodes first.
use Rattle.std.specs.Prelude.{◌≡◌, ℕ, suc, ◌<◌, List, length, slice_get, Some}
use Rattle.reg_levels.specs.OrderGraph.Graph.{HasEdge}
use Rattle.reg_levels.specs.declared.order_graph.edge.Edge.{Edge}
use Rattle.reg_levels.specs.declared.order_graph.shorter.MetNode.{MetNode}

-- The search began with a node, and an edge leads from each other node to one that was met before.
pub record AreMet (nodes : ℕ) (edges : List Edge) (start : ℕ) (met : List MetNode) : Type 0 where
  pub first : (m : MetNode) → slice_get met 0 ≡ Some m → m.node ≡ start
  pub some : 0 < length met
  pub among : (i : ℕ) (m : MetNode) → slice_get met i ≡ Some m → m.node < nodes
  pub before : (i : ℕ) (m : MetNode) → slice_get met (suc i) ≡ Some m → m.by < suc i
  pub leads : (i : ℕ) (m n : MetNode) → slice_get met (suc i) ≡ Some m → slice_get met m.by ≡ Some n
      → HasEdge edges m.node n.node
