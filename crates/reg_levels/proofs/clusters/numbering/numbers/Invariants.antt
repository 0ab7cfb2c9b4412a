use Rattle.reg_levels.specs.Clusters.Steps.{AreFromWrites}
use Rattle.reg_levels.proofs.clusters.numbering.numbers.Given as goal

abbrev pub invariant-loop-place : goal.invariant-loop-place
invariant-loop-place l = AreFromWrites l.by_write l.sources l.place l.numbers.items
