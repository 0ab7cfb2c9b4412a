-- What the call for `reglevel` answers (this project's own interface; docs/embedding.md).
use Rattle.std.specs.Prelude.{◌≡◌, ◌⊎◌, ℕ, List, [], ◌∷◌, slice_get, Option, Some, None, true, false}
use Rattle.reg_intake.specs.declared.refusal.Refusal.{Refusal}
use Rattle.report_text.specs.declared.level.report.Required.{Required}
use Rattle.report_text.specs.declared.level.report.Required.TheVariants.{Each, Causal}
use Rattle.report_text.specs.declared.level.report.LevelName.TheVariants.{Atomic, Regular, Session}
use Rattle.report_text.specs.declared.level.report.LevelName.TheVariants.{OwnWrites, Monotonic, Sequential}
use Rattle.level_report.specs.Answer.{IsAnswerText, IsOutcome, IsRefused}
use Rattle.level_report.specs.declared.outcome.Outcome.{Outcome}
use Rattle.level_report.specs.declared.outcome.Outcome.TheVariants.{Kept, Broken, Unknown}
use Rattle.level_report.specs.declared.settings.Asked.{Asked}
use Rattle.regcheck_c.specs.Called.{bad_number, IsPut}
use Rattle.regcheck_c.specs.Checking.{IsRefusal}
use Rattle.regcheck_c.specs.declared.answer.Answer.{Answer}

-- the levels by their numbers
abbrev pub levels : List Required
levels =
    Each Atomic ∷ Each Regular ∷ Each Session ∷ Each OwnWrites ∷ Each Monotonic ∷ Each Sequential ∷ Causal
    ∷ []

abbrev pub level_of : ℕ → Option Required
level_of number = slice_get levels number

-- what a report may have to say in addition, by numbers
abbrev pub additions : List Asked
additions =
    (record { stale = false; orders = false }) ∷ (record { stale = true; orders = false })
    ∷ (record { stale = false; orders = true }) ∷ (record { stale = true; orders = true }) ∷ []

abbrev pub addition_of : ℕ → Option Asked
addition_of number = slice_get additions number

-- the status of a report that there is room for
abbrev pub status_of_outcome : Outcome → ℕ
status_of_outcome Kept = 0
status_of_outcome Broken = 1
status_of_outcome Unknown = 6

-- the bytes of an input's report, and the status that they are given with
abbrev pub IsReported : Required → Asked → List ℕ → List ℕ → ℕ → Type 0
IsReported level asked input bytes status =
    (outcome : Outcome) × IsAnswerText asked input bytes × IsOutcome level input outcome
    × (status ≡ status_of_outcome outcome)

-- an input was answered for a level: by its report, or by its refusal or because memory ran out
abbrev pub IsAnsweredFor : Required → Asked → List ℕ → List ℕ → List ℕ → Answer → Type 0
IsAnsweredFor level asked input old new answer =
    ((bytes : List ℕ) × (status : ℕ) × IsReported level asked input bytes status
    × IsPut bytes status old new answer)
    ⊎ ((refusal : Refusal) × IsRefused asked input refusal × IsRefusal refusal old new answer)

-- the same by a caller's numbers, which may stand for nothing; then the place is as it was
abbrev pub IsAnsweredBy : Option Required → Option Asked → List ℕ → List ℕ → List ℕ → Answer → Type 0
IsAnsweredBy (Some level) (Some asked) input old new answer = IsAnsweredFor level asked input old new answer
IsAnsweredBy None asked input old new answer = (answer ≡ bad_number) × (new ≡ old)
IsAnsweredBy (Some level) None input old new answer = (answer ≡ bad_number) × (new ≡ old)

abbrev pub IsAnswered : List ℕ → ℕ → ℕ → List ℕ → List ℕ → Answer → Type 0
IsAnswered input level more old new answer =
    IsAnsweredBy (level_of level) (addition_of more) input old new answer

-- the status of an input's answer says whether its history kept the level, or that it was left undecided
pub record TellsOf (level : Required) (input : List ℕ) (status : ℕ) : Type 0 where
  pub kept : status ≡ 0 → IsOutcome level input Kept
  pub broken : status ≡ 1 → IsOutcome level input Broken
  pub unknown : status ≡ 6 → IsOutcome level input Unknown

-- the same by the level's number
pub record TellsLevel (input : List ℕ) (number status : ℕ) : Type 0 where
  pub kept : status ≡ 0 → (level : Required) → level_of number ≡ Some level → IsOutcome level input Kept
  pub broken : status ≡ 1 → (level : Required) → level_of number ≡ Some level
      → IsOutcome level input Broken
  pub unknown : status ≡ 6 → (level : Required) → level_of number ≡ Some level
      → IsOutcome level input Unknown
