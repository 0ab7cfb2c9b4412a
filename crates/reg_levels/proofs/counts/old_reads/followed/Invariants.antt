use Rattle.reg_levels.specs.Counts.Marks.{AreFound, IsFollowedFound}
use Rattle.reg_levels.proofs.counts.old_reads.followed.Given as goal

abbrev pub invariant-loop-place : goal.invariant-loop-place
invariant-loop-place l = AreFound (IsFollowedFound l.ops l.marks) l.ops l.place l.reads.items
