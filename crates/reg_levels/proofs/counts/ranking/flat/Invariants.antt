use Rattle.reg_levels.specs.Counts.Marks.{AreFlat}
use Rattle.reg_levels.proofs.counts.ranking.flat.Given as goal

abbrev pub invariant-loop-place : goal.invariant-loop-place
invariant-loop-place l = AreFlat l.marks l.place l.list.items
