use Rattle.std.proofs.Common.{List, None}
use Rattle.history_model.specs.declared.operation.Operation.{Operation}
use Rattle.causal_order.specs.SessionClocks.WriteIndex.{IsWriteIndex}
use Rattle.causal_order.specs.declared.session_clocks.table.SessionTable.{SessionTable}
use Rattle.causal_order.specs.Covering.{IsAnyKnown}
use Rattle.causal_order.proofs.newer.any_known.Given as goal

abbrev pub invariant-loop-session : goal.invariant-loop-session
invariant-loop-session l = (ops : List Operation) (table : SessionTable) → IsWriteIndex ops table l.index
    → IsAnyKnown ops table l.register l.row l.session None
