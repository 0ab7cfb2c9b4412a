-- The bytes before `end` are plain.
use Rattle.std.proofs.Common.{ℕ, ◌<◌, ◌≤◌, ◌-◌, length}
use Rattle.std.specs.Prelude.{slice_index}
use Rattle.history_text.specs.Flat.{IsPlainByte}
use Rattle.history_text.proofs.scan.plain_string.Given as goal

abbrev pub invariant-loop-end : goal.invariant-loop-end
invariant-loop-end l = record {
  within : l.end ≤ length l.inner;
  before : (k : ℕ) → k < l.end → IsPlainByte (slice_index l.inner k);
}

abbrev pub decreases-loop-end : goal.decreases-loop-end
decreases-loop-end l = length l.inner - l.end
