use Rattle.std.proofs.Common.{◌≡◌, ℕ, [], length, slice_get}
use Rattle.causal_order.specs.SessionClocks.WriteIndex.{list_in}
use Rattle.causal_order.proofs.session_clocks.writes.no_lists.Given as goal

abbrev pub invariant-loop : goal.invariant-loop
invariant-loop l = record {
  size : length l.lists.items ≡ l.counter;
  none : (p : ℕ) → list_in (slice_get l.lists.items p) ≡ [];
}
