use Rattle.std.proofs.Common.{List, length, ◌≤◌, ◌*◌}
use Rattle.causal_order.specs.CausalGraph.{AreLearned, IsCausalGraph}
use Rattle.history_model.specs.declared.operation.Operation.{Operation}
use Rattle.causal_order.specs.SessionClocks.Sessions.{IsCalledInOrder, IsSessionTable}
use Rattle.causal_order.proofs.learned.learned_graph.Given as goal

abbrev pub invariant-loop-place : goal.invariant-loop-place
invariant-loop-place l = record {
  graph : (ops : List Operation) → IsCalledInOrder ops → IsSessionTable ops l.table
      → IsCausalGraph ops l.graph;
  learned : AreLearned l.table l.place l.graph.edges.items;
  few : length l.graph.edges.items ≤ 2 * l.place;
}
