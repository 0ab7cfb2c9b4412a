use Rattle.std.proofs.Common.{◌≡◌, length}
use Rattle.reg_levels.specs.OrderGraph.Shorter.{AreMet}
use Rattle.reg_levels.proofs.order_graph.shorter.shorter.Given as goal

abbrev pub invariant-loop-place : goal.invariant-loop-place
invariant-loop-place l = record {
  size : length l.search.seen.items ≡ l.nodes;
  met : AreMet l.nodes l.edges l.start l.search.met.items;
}
