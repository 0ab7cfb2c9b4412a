use Rattle.reg_levels.specs.OrderGraph.Incoming.{AreLists}
use Rattle.reg_levels.proofs.order_graph.incoming.linked.Given as goal

abbrev pub invariant-loop-edge : goal.invariant-loop-edge
invariant-loop-edge l = AreLists l.nodes l.edges l.edge-index l.first.items l.next.items
