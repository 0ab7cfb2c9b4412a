use Rattle.causal_order.specs.SessionClocks.Steps.{AreValueWrites, found_in}
use Rattle.causal_order.proofs.session_clocks.values.value_writes.Given as goal

abbrev pub invariant-loop-place : goal.invariant-loop-place
invariant-loop-place l = AreValueWrites l.ops l.place (found_in l.writes)
