use Rattle.reg_levels.specs.Counts.Marks.{AreMarks, IsAgeMarked}
use Rattle.reg_levels.proofs.counts.marks.age_marks.Given as goal

abbrev pub invariant-loop-place : goal.invariant-loop-place
invariant-loop-place l = AreMarks (IsAgeMarked l.ops) l.ops l.place l.marks.items
