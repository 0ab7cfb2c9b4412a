use Rattle.reg_levels.specs.Clusters.Steps.{IsNumberedBelow}
use Rattle.reg_levels.proofs.clusters.numbering.numbered.Given as goal

abbrev pub invariant-loop-place : goal.invariant-loop-place
invariant-loop-place l = IsNumberedBelow l.ends l.place l.clusters.items l.numbers.items
