use Rattle.reg_levels.specs.Counts.Marks.{AreMarks, IsMarkFound}
use Rattle.reg_levels.specs.Counts.Staleness.{Wrote}
use Rattle.reg_levels.proofs.counts.marks.write_marks.Given as goal

abbrev pub invariant-loop-place : goal.invariant-loop-place
invariant-loop-place l = AreMarks (IsMarkFound Wrote l.ops) l.ops l.place l.marks.items
