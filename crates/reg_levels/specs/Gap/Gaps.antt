-- The gap of a register's operations, `ops`: how old the reads must be allowed to be for it to be atomic
-- (this project's own figure; the ages are those of Golab, Li and Shah, Analyzing Consistency Properties for
-- Fun and Profit, 2011).
use Rattle.std.specs.Prelude.{◌⊎◌, ℕ, ◌<◌, ◌≤◌, ◌+◌, List, Option, Some, None}
use Rattle.history_model.specs.Legal.{HasOrderFor, IsAtomic}
use Rattle.history_model.specs.Operations.{IsWrite, value_of}
use Rattle.history_model.specs.declared.guarantee.Guarantee.TheVariants.{Within}
use Rattle.history_model.specs.declared.operation.Operation.{Operation}
use Rattle.level_laws.specs.Evidence.{IsLink}
use Rattle.reg_levels.specs.Clusters.Places.{IsAt}
use Rattle.reg_zones.specs.Clusters.{HasFirstReply, IsInCluster}
use Rattle.reg_levels.specs.declared.gap.answer.Gap.{Gap}

-- What shows that reads of this age are needed: two writes, and for each an operation of its cluster, the one
-- that replies first, that must come before an operation of the other's. So the two clusters are a cycle.
pub record IsConflictShown (age : ℕ) (ops : List Operation) (gap : Gap) : Type 0 where
  pub v : Operation
  pub w : Operation
  pub a : Operation
  pub b : Operation
  pub c : Operation
  pub d : Operation
  pub at_v : IsAt ops gap.writes.0 v
  pub at_w : IsAt ops gap.writes.1 w
  pub at_a : IsAt ops gap.first.0 a
  pub at_b : IsAt ops gap.first.1 b
  pub at_c : IsAt ops gap.second.0 c
  pub at_d : IsAt ops gap.second.1 d
  pub one : IsLink (Within age) ops (record { write = v; before = a; after = b }) w
  pub other : IsLink (Within age) ops (record { write = w; before = c; after = d }) v
  pub first : HasFirstReply ops (value_of v) a
  pub second : HasFirstReply ops (value_of w) c

-- what stands at the place is of w's cluster, is called after the reply, and is a write or called at least so
-- many events later
pub record IsAfter (age : ℕ) (ops : List Operation) (reply : ℕ) (w : Operation) (place : ℕ) : Type 0 where
  pub b : Operation
  pub at_b : IsAt ops place b
  pub member : IsInCluster ops (value_of w) b
  pub later : reply < b.call
  pub old : IsWrite b ⊎ (reply + age ≤ b.call)

-- The register is atomic if reads may be as many events old as the gap, that is, less than one more; if they
-- must be less than the gap it isn't, and the conflict shows it.
pub record IsGap (ops : List Operation) (gap : Gap) : Type 0 where
  pub enough : HasOrderFor (Within (gap.events + 1)) ops
  pub needed : HasOrderFor (Within gap.events) ops → ⊥
  pub shown : IsConflictShown gap.events ops gap

-- the gap, or none if the register is atomic
abbrev pub IsGapOf : List Operation → Option Gap → Type 0
IsGapOf ops None = IsAtomic ops
IsGapOf ops (Some gap) = IsGap ops gap
