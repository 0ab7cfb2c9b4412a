use Rattle.causal_order.specs.SessionClocks.Clocks.{AreLastTurns}
use Rattle.causal_order.proofs.session_clocks.clocks.last_turns.Given as goal

abbrev pub invariant-loop-turn : goal.invariant-loop-turn
invariant-loop-turn l = AreLastTurns l.table l.order l.turn l.until.items
