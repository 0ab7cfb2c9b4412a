use Rattle.std.proofs.Common.{◌≡◌, ◌<◌, ◌≤◌, ◌-◌, ℕ, Some, length, slice_get}
use Rattle.reg_levels.proofs.chain.first_after.Given as goal

abbrev pub invariant-loop-low : goal.invariant-loop-low
invariant-loop-low l = record {
  ordered : l.low ≤ l.high;
  within : l.high ≤ length l.calls;
  before : (k n : ℕ) → k < l.low → slice_get l.calls k ≡ Some n → n ≤ l.time;
  after : (k n : ℕ) → l.high ≤ k → slice_get l.calls k ≡ Some n → l.time < n;
}

abbrev pub decreases-loop-low : goal.decreases-loop-low
decreases-loop-low l = l.high - l.low
