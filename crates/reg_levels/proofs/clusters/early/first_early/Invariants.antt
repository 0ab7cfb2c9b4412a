use Rattle.reg_levels.proofs.ClusterLemmas.Tables.{NoneEarlyBelow}
use Rattle.reg_levels.proofs.clusters.early.first_early.Given as goal

abbrev pub invariant-loop-place : goal.invariant-loop-place
invariant-loop-place l = NoneEarlyBelow l.ops l.place
