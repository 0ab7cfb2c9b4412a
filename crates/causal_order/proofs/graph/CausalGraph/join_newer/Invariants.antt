use Rattle.std.proofs.Common.{◌≤◌, ◌+◌, List, length}
use Rattle.history_model.specs.declared.operation.Operation.{Operation}
use Rattle.causal_order.specs.SessionClocks.WriteIndex.{IsWriteIndex}
use Rattle.causal_order.specs.declared.session_clocks.table.SessionTable.{SessionTable}
use Rattle.causal_order.specs.CausalGraph.{IsCausalGraph, Keeps}
use Rattle.causal_order.specs.Covering.{AreReached, IsSourcedRead}
use Rattle.causal_order.proofs.graph.CausalGraph.join_newer.Given as goal

abbrev pub invariant-loop-session : goal.invariant-loop-session
invariant-loop-session l = record {
  graph : (ops : List Operation) (table : SessionTable) → IsWriteIndex ops table l.index
      → IsSourcedRead ops table l.of l.earlier l.later → IsCausalGraph ops l.fn.self
      → IsCausalGraph ops l.self;
  keeps : Keeps l.fn.self.edges.items l.self.edges.items;
  reached : (ops : List Operation) (table : SessionTable) → IsWriteIndex ops table l.index
      → AreReached ops table l.of l.earlier l.later l.session l.self.edges.items;
  longer : length l.self.edges.items ≤ length l.fn.self.edges.items + l.session;
}
