-- What the calls for `regcheck` answer (this project's own interface; docs/embedding.md).
use Rattle.std.specs.Prelude.{◌≡◌, ◌⊎◌, ℕ, List, false, if◌then◌else◌, Ok, Err}
use Rattle.reg_intake.specs.Refusals.{line_of, number_of, other_of}
use Rattle.reg_intake.specs.declared.refusal.Refusal.{Refusal}
use Rattle.report_text.specs.Check.Text.{report_text}
use Rattle.report_text.specs.declared.check.report.Report.{Report}
use Rattle.reg_report.specs.Answer.{IsAnswer, IsRefused}
use Rattle.reg_report.specs.Run.{IsOutcome}
use Rattle.reg_report.specs.declared.outcome.Outcome.TheVariants.{Atomic, NotAtomic}
use Rattle.regcheck_c.specs.Called.{answer_of_refusal, IsPut}
use Rattle.regcheck_c.specs.declared.answer.Answer.{Answer}

-- the bytes of an input's report, and the status that they are given with
abbrev pub IsReported : List ℕ → List ℕ → ℕ → Type 0
IsReported input bytes status =
    (report : Report) × IsAnswer false input (Ok report) × (bytes ≡ report_text report)
    × (status ≡ (if report.atomic then 0 else 1))

-- the refusal is said, and the place is as it was
abbrev pub IsRefusal : Refusal → List ℕ → List ℕ → Answer → Type 0
IsRefusal refusal old new answer =
    (answer ≡ answer_of_refusal (number_of refusal) (line_of refusal) (other_of refusal)) × (new ≡ old)

-- an input was answered: by its report, or by its refusal or because memory ran out
abbrev pub IsAnswered : List ℕ → List ℕ → List ℕ → Answer → Type 0
IsAnswered input old new answer =
    ((bytes : List ℕ) × (status : ℕ) × IsReported input bytes status × IsPut bytes status old new answer)
    ⊎ ((refusal : Refusal) × IsRefused false input refusal × IsRefusal refusal old new answer)

-- a line of this length is said of an input only if it is refused
abbrev pub IsSaidOf : List ℕ → ℕ → Type 0
IsSaidOf input size = (size ≡ 0) ⊎ ((refusal : Refusal) × IsAnswer false input (Err refusal))

-- the status of an input's answer says whether its history is atomic, if it says either
pub record TellsAtomic (input : List ℕ) (status : ℕ) : Type 0 where
  pub atomic : status ≡ 0 → IsOutcome input Atomic
  pub not_atomic : status ≡ 1 → IsOutcome input NotAtomic
