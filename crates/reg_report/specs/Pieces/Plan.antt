-- The pieces of work of a history, and what is done for each (this project's own design).
use Rattle.std.specs.Prelude.{◌≡◌, ℕ, suc, ◌<◌, ◌≤◌, ◌+◌, ◌-◌, min, List, [], ◌∷◌, ◌++◌, length}
use Rattle.std.specs.Prelude.{slice_get, Option, Some, None, Bool, true, false, ◌⊎◌, MatchBool}
use Rattle.job_board.specs.declared.limits.TheConstants.{MAX_JOBS}
use Rattle.history_model.specs.History.{History}
use Rattle.reg_lamport.specs.Counts.{AreReadCounts}
use Rattle.reg_report.specs.Pieces.BadReads.{AreFirstBad}
use Rattle.reg_report.specs.Pieces.Judged.{IsJudged, IsLookedAt}
use Rattle.history_model.specs.Operations.{register_of}
use Rattle.reg_report.specs.declared.pieces.bad_reads.BadReads.{BadReads}
use Rattle.reg_report.specs.declared.pieces.judgement.Judgement.{Judgement}
use Rattle.reg_report.specs.declared.pieces.piece.Piece.{Piece}
use Rattle.reg_report.specs.declared.pieces.piece.Piece.TheVariants as piece
use Rattle.reg_report.specs.declared.pieces.tasks.Task.{Task}
use Rattle.reg_report.specs.declared.pieces.tasks.Task.TheVariants.{Judge, Reads, First}

-- what contracts see of a plan: its tasks by number, how many completed reads each register with a single
-- writer has, and whether the first register that isn't atomic is all that is asked for
pub record PlanShown : Type 0 where
  pub tasks : List Task
  pub counts : List (Option ℕ)
  pub first : Bool

-- the reads of register r numbered from `from` up to but not including `len`, in
-- cuts of that many, the last perhaps shorter
abbrev pub AreCuts : ℕ → ℕ → ℕ → ℕ → List Task → Type 0
AreCuts cut r from len [] = from ≡ len
AreCuts cut r from len (t ∷ ts) =
    (from < len) × (t ≡ Reads (record { 0 = r }) from (from + min (len - from) cut))
    × AreCuts cut r (from + min (len - from) cut) len ts

-- all reads of a register with a single writer; none of another
abbrev pub AreCutsOf : ℕ → ℕ → Option ℕ → List Task → Type 0
AreCutsOf cut r None ts = ts ≡ []
AreCutsOf cut r (Some count) ts = AreCuts cut r 0 count ts

-- the tasks have these cuts more
abbrev pub AddsCuts : ℕ → ℕ → Option ℕ → List Task → List Task → Type 0
AddsCuts cut r count old new = (cuts : List Task) × AreCutsOf cut r count cuts × (new ≡ old ++ cuts)

-- register by register from r on: its verdict, then the cuts of its reads
abbrev pub AreTasks : ℕ → ℕ → List (Option ℕ) → List Task → Type 0
AreTasks cut r [] ts = ts ≡ []
AreTasks cut r (c ∷ cs) ts =
    (cuts : List Task) × (rest : List Task) × AreCutsOf cut r c cuts × AreTasks cut (suc r) cs rest
    × (ts ≡ Judge (record { 0 = r }) ∷ cuts ++ rest)

-- the plan of a history, in cuts of `cut` reads; it has no more tasks than a board may have jobs
pub record IsPlan (h : History) (cut : ℕ) (plan : PlanShown) : Type 0 where
  pub counts : AreReadCounts h plan.counts
  pub numbered : AreTasks cut 0 plan.counts plan.tasks
  pub few : length plan.tasks ≤ MAX_JOBS
  pub whole : plan.first ≡ false

-- the plan to find the first register that isn't atomic: a task for each register, of its number
pub record IsFirstPlan (h : History) (plan : PlanShown) : Type 0 where
  pub registers : length plan.tasks ≡ length h.names
  pub each : (r : ℕ) (t : Task) → slice_get plan.tasks r ≡ Some t → t ≡ First (record { 0 = r })
  pub few : length plan.tasks ≤ MAX_JOBS
  pub early : plan.first ≡ true

-- the plan of a history by its settings
abbrev pub IsPlanBy : History → ℕ → Bool → PlanShown → Type 0
IsPlanBy h cut first plan = MatchBool first (IsFirstPlan h plan) (IsPlan h cut plan)

-- the plan of a history, whatever the settings
abbrev pub IsSomePlan : History → PlanShown → Type 0
IsSomePlan h plan = IsFirstPlan h plan ⊎ ((cut : ℕ) × IsPlan h cut plan)

-- whether there is a task, and it is a cut
abbrev pub is_cut : Option Task → Bool
is_cut None = false
is_cut (Some (Judge r)) = false
is_cut (Some (Reads r from to)) = true
is_cut (Some (First r)) = false

-- what is done for a task
abbrev pub IsPieceOf : History → Task → Piece → Type 0
IsPieceOf h (Judge r) p =
    (judgement : Judgement) × (p ≡ piece.Judged judgement) × IsJudged (register_of h r.0) judgement
IsPieceOf h (Reads r from to) p =
    (reads : BadReads) × (p ≡ piece.Reads reads) × AreFirstBad h r.0 from to reads
IsPieceOf h (First r) p = IsLookedAt (register_of h r.0) p

-- there is a task of this number, and this is done for it
abbrev pub IsPieceAt : History → List Task → ℕ → Piece → Type 0
IsPieceAt h tasks number p = (t : Task) × (slice_get tasks number ≡ Some t) × IsPieceOf h t p
