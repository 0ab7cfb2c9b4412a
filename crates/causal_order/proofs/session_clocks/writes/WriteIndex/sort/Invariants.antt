use Rattle.causal_order.specs.SessionClocks.WriteIndex.{AreSortedBelow}
use Rattle.causal_order.proofs.session_clocks.writes.WriteIndex.sort.Given as goal

abbrev pub invariant-loop-register : goal.invariant-loop-register
invariant-loop-register l = AreSortedBelow l.fn.self l.self l.register
