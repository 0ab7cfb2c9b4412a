use Rattle.std.proofs.Common.{◌≤◌, ◌≡◌, ℕ, slice_get, Some}
use Rattle.reg_levels.specs.OrderGraph.GraphWalk.{EndsAt}
use Rattle.reg_levels.specs.declared.order_graph.edge.Edge.{Edge}
use Rattle.reg_levels.proofs.order_graph.along.edge_between.Given as goal

abbrev pub invariant-loop-number : goal.invariant-loop-number
invariant-loop-number l = record {
  ends : EndsAt l.edges l.to l.number;
  passed : (k : ℕ) (e : Edge) → l.number ≤ k → slice_get l.edges k ≡ Some e → e.to ≡ l.to → e.from ≡ l.from
      → ⊥;
}

abbrev pub decreases-loop-number : goal.decreases-loop-number
decreases-loop-number l = l.number
