use Rattle.std.specs.Ordering.{nat_cmp}
use Rattle.std.specs.BTreeMap.{get}
use Rattle.causal_order.specs.SessionClocks.Steps.{AreNumbers}
use Rattle.causal_order.proofs.session_clocks.numbers.session_numbers.Given as goal

abbrev pub invariant-loop-place : goal.invariant-loop-place
invariant-loop-place l = AreNumbers l.ops l.place l.count (get nat_cmp l.sessions) l.numbers.items
