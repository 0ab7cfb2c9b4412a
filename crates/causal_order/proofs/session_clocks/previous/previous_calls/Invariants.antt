use Rattle.std.proofs.Common.{◌≡◌, length}
use Rattle.causal_order.specs.SessionClocks.Steps.{AreLatest, ArePrevious}
use Rattle.causal_order.proofs.session_clocks.previous.previous_calls.Given as goal

abbrev pub invariant-loop-place : goal.invariant-loop-place
invariant-loop-place l = record {
  size : length l.latest.items ≡ l.count;
  latest : AreLatest l.numbers l.place l.latest.items;
  previous : ArePrevious l.numbers l.place l.previous.items;
}
