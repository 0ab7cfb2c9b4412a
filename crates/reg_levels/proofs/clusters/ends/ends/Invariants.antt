use Rattle.reg_levels.specs.Clusters.Steps.{AreEnds}
use Rattle.reg_levels.proofs.clusters.ends.ends.Given as goal

abbrev pub invariant-loop-place : goal.invariant-loop-place
invariant-loop-place l = AreEnds l.ops l.place l.ends.items
