use Rattle.std.proofs.Common.{◌+◌, ◌*◌, ◌≤◌, None, length}
use Rattle.causal_order.specs.CausalGraph.{IsCausalGraph, Keeps}
use Rattle.causal_order.specs.Covering.{AreSettled}
use Rattle.causal_order.specs.Walks.{IsSmall, IsWalk}
use Rattle.causal_order.proofs.walk.walk.Given as goal

abbrev pub invariant-loop-turn : goal.invariant-loop-turn
invariant-loop-turn l = record {
  walk : IsWalk l.ops l.table l.order l.turn None l.walk;
  graph : IsCausalGraph l.ops l.fn.graph → IsCausalGraph l.ops l.walk.graph;
  keeps : Keeps l.fn.graph.edges.items l.walk.graph.edges.items;
  settled : AreSettled l.ops l.table l.walk.graph.edges.items l.order l.turn;
  longer : length l.walk.graph.edges.items ≤ 2 * length l.ops + l.turn * l.table.count;
  small : IsSmall l.walk.graph.edges.items;
}
