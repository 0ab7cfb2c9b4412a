use Rattle.reg_levels.specs.Clusters.Steps.{AreIntegerWrites}
use Rattle.reg_levels.proofs.clusters.writes.integer_writes.Given as goal

abbrev pub invariant-loop-place : goal.invariant-loop-place
invariant-loop-place l = AreIntegerWrites l.ops l.place l.writes
