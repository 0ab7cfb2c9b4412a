-- A level of one register's operations, `ops` (Lamport, On Interprocess Communication, Part II, 1986).
use Rattle.std.specs.Prelude.{◌≡◌, ℕ, ◌<◌, ◌≤◌, List, slice_get, Option, Some, None}
use Rattle.history_model.specs.Lists.{In}
use Rattle.history_model.specs.History.{History}
use Rattle.history_model.specs.Operations.{IsCompletedRead, of_register, operations}
use Rattle.history_model.specs.declared.operation.Operation.{Operation}
use Rattle.history_model.specs.Lamport.{KeepsSafe, KeepsRegular, completed_reads}
use Rattle.history_model.specs.Naming.{IsNamed}
use Rattle.history_model.specs.declared.ids.EvId.{EvId}
use Rattle.history_model.specs.declared.ids.Oper.TheVariants.{Called}
use Rattle.reg_lamport.specs.declared.level.Level.{Level}
use Rattle.reg_lamport.specs.declared.level.Level.TheVariants.{Safe, Regular}

-- the read keeps the level
abbrev pub Keeps : Level → List Operation → Operation → Type 0
Keeps Safe ops r = KeepsSafe ops r
Keeps Regular ops r = KeepsRegular ops r

-- each completed read keeps the level
abbrev pub IsAtLevel : Level → List Operation → Type 0
IsAtLevel level ops = (r : Operation) → In r ops → IsCompletedRead r → Keeps level ops r

-- of the completed reads that break the level, the one called first
pub record IsFirstBadRead (level : Level) (ops : List Operation) (r : Operation) : Type 0 where
  pub within : In r ops
  pub read : IsCompletedRead r
  pub breaks : Keeps level ops r → ⊥
  pub first : (q : Operation) → In q ops → IsCompletedRead q → q.call < r.call → Keeps level ops q

-- ---- the reads by number

-- the completed reads numbered from `from` up to but not including `to` keep the level
abbrev pub AllKeep : Level → List Operation → ℕ → ℕ → Type 0
AllKeep level ops from to =
    (i : ℕ) (r : Operation) → from ≤ i → i < to → slice_get (completed_reads ops) i ≡ Some r
    → Keeps level ops r

-- of the completed reads numbered from `from` up to but not including `to`, r breaks the
-- level, and those with lower numbers keep it
pub record IsFirstBadWithin (level : Level) (ops : List Operation) (from to : ℕ)
    (r : Operation) : Type 0 where
  pub place : ℕ
  pub from_on : from ≤ place
  pub below : place < to
  pub there : slice_get (completed_reads ops) place ≡ Some r
  pub breaks : Keeps level ops r → ⊥
  pub first : AllKeep level ops from place

-- the first bad read of that part, where there is one
abbrev pub IsFirstBadFound : Level → List Operation → ℕ → ℕ → Option Operation → Type 0
IsFirstBadFound level ops from to None = AllKeep level ops from to
IsFirstBadFound level ops from to (Some r) = IsFirstBadWithin level ops from to r

-- the same of a register of a history, the read named by the event of its call
abbrev pub IsFirstBadNamed : History → ℕ → Level → ℕ → ℕ → Option EvId → Type 0
IsFirstBadNamed h register level from to None = AllKeep level (of_register register (operations h)) from to
IsFirstBadNamed h register level from to (Some id) =
    (r : Operation) × IsNamed h (Called id) r
    × IsFirstBadWithin level (of_register register (operations h)) from to r
