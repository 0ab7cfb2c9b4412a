use Rattle.std.proofs.Common.{ℕ, ◌<◌}
use Rattle.history_model.specs.declared.operation.Operation.{Operation}
use Rattle.causal_order.specs.SessionClocks.Sessions.{IsAt}
use Rattle.causal_order.proofs.session_clocks.writes.register_count.Given as goal

abbrev pub invariant-loop-op : goal.invariant-loop-op
invariant-loop-op l = (p : ℕ) (a : Operation) → p < l.op-index → IsAt l.ops p a → a.register < l.count
