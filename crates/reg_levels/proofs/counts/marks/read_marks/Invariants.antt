use Rattle.reg_levels.specs.Counts.Marks.{AreMarks, IsMarkFound}
use Rattle.reg_levels.specs.Counts.Staleness.{Gave}
use Rattle.reg_levels.proofs.counts.marks.read_marks.Given as goal

abbrev pub invariant-loop-place : goal.invariant-loop-place
invariant-loop-place l = AreMarks (IsMarkFound Gave l.ops) l.ops l.place l.marks.items
