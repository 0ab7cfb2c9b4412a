use Rattle.std.proofs.Common.{ℕ}
use Rattle.std.specs.BTreeMap.{get}
use Rattle.std.specs.Ordering.{nat_cmp}
use Rattle.reg_levels.specs.Counts.Marks.{AreLastBelow, IsLastBelow}
use Rattle.reg_levels.proofs.counts.session.last_in_session.Given as goal

abbrev pub invariant-loop-place : goal.invariant-loop-place
invariant-loop-place l = record {
  at_each : AreLastBelow l.ops l.marks l.place l.found.items;
  last : (t : ℕ) → IsLastBelow l.ops l.marks l.place t (get nat_cmp l.last t);
}
