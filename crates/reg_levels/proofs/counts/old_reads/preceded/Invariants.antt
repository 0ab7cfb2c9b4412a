use Rattle.reg_levels.specs.Counts.Marks.{AreFound, HasMark, IsPrecededFound}
use Rattle.reg_levels.proofs.counts.old_reads.preceded.Given as goal

abbrev pub invariant-loop-place : goal.invariant-loop-place
invariant-loop-place l = AreFound (IsPrecededFound (HasMark l.marks) l.ops) l.ops l.place l.reads.items
