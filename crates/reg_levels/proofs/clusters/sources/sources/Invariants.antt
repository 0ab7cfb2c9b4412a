use Rattle.reg_levels.specs.Clusters.Steps.{AreSources}
use Rattle.reg_levels.proofs.clusters.sources.sources.Given as goal

abbrev pub invariant-loop-place : goal.invariant-loop-place
invariant-loop-place l = AreSources l.ops l.place l.sources.items
