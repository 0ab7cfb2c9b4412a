use Rattle.std.proofs.Common.{ℕ, ◌<◌}
use Rattle.history_text.specs.declared.event.Val.TheVariants.{Null}
use Rattle.reg_levels.specs.Clusters.Steps.{IsWriteAt}
use Rattle.reg_levels.proofs.clusters.writes.null_write.Given as goal

abbrev pub invariant-loop-place : goal.invariant-loop-place
invariant-loop-place l = (p : ℕ) → p < l.place → IsWriteAt l.ops Null p → ⊥
