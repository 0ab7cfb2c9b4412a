use Rattle.std.proofs.Common.{◌≡◌, length}
use Rattle.causal_order.specs.SessionClocks.Rows.{AreEmpty}
use Rattle.causal_order.proofs.session_clocks.clocks.no_rows.Given as goal

abbrev pub invariant-loop : goal.invariant-loop
invariant-loop l = record {
  size : length l.rows.items ≡ l.counter;
  none : AreEmpty l.rows.items;
}
