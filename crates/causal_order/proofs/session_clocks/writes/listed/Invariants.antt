use Rattle.causal_order.specs.SessionClocks.WriteIndex.{IsListed}
use Rattle.causal_order.proofs.session_clocks.writes.listed.Given as goal

abbrev pub invariant-loop-place : goal.invariant-loop-place
invariant-loop-place l = IsListed l.ops l.table l.place (record { registers = l.registers })
