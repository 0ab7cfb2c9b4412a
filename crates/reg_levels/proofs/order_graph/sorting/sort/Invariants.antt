use Rattle.std.proofs.Common.{◌≡◌, ◌<◌, ℕ, length, slice_get, Some}
use Rattle.reg_levels.specs.OrderGraph.GraphWalk.{IsGraphWalk}
use Rattle.reg_levels.specs.declared.order_graph.walk.NodeMark.TheVariants.{New}
use Rattle.reg_levels.proofs.order_graph.sorting.sort.Given as goal

abbrev pub invariant-loop-node : goal.invariant-loop-node
invariant-loop-node l = record {
  size : length l.walk.marks.items ≡ l.nodes;
  walk : IsGraphWalk l.edges l.walk;
  path : length l.walk.path.items ≡ 0;
  met : (v : ℕ) → v < l.node → slice_get l.walk.marks.items v ≡ Some New → ⊥;
}
