use Rattle.causal_order.proofs.SessionClockLemmas.Raised.{IsRaisedBelow}
use Rattle.causal_order.proofs.session_clocks.clocks.raise.Given as goal

abbrev pub invariant-loop-session : goal.invariant-loop-session
invariant-loop-session l = IsRaisedBelow l.fn.row.items l.other l.session l.row.items
