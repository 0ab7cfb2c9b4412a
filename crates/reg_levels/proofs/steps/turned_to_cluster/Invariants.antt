use Rattle.std.proofs.Common.{◌≡◌, ◌<◌, ℕ, slice_get, Some}
use Rattle.reg_levels.specs.declared.order_graph.edge.Edge.{Edge}
use Rattle.reg_levels.proofs.steps.turned_to_cluster.Given as goal

abbrev pub invariant-loop-place : goal.invariant-loop-place
invariant-loop-place l = (i k : ℕ) (e : Edge) → i < l.place → slice_get l.cycle i ≡ Some k
    → slice_get l.graph.edges.items k ≡ Some e → e.from < l.count → ⊥
