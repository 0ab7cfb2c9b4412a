use Rattle.std.proofs.Common.{ℕ, ◌<◌}
use Rattle.history_model.specs.declared.operation.Operation.{Operation}
use Rattle.level_laws.specs.Leads.{IsTooEarly}
use Rattle.reg_levels.specs.Clusters.Places.{IsAt}
use Rattle.reg_levels.proofs.early.first_too_early.Given as goal

abbrev pub invariant-loop-place : goal.invariant-loop-place
invariant-loop-place l = (p : ℕ) (r w : Operation) → p < l.place → IsAt l.ops p r
    → IsTooEarly l.guarantee l.ops r w → ⊥
