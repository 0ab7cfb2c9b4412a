-- What the calls for `regsearch` answer (this project's own interface; docs/embedding.md).
use Rattle.std.specs.Prelude.{◌≡◌, ◌⊎◌, ℕ, List, min, ◌==◌, if◌then◌else◌, Ok, Err}
use Rattle.history_model.specs.Table.{events_of}
use Rattle.reg_intake.specs.CasHistory.Input.{history_lines}
use Rattle.reg_intake.specs.Refusals.{line_of, number_of, other_of}
use Rattle.reg_intake.specs.declared.refusal.Refusal.{Refusal}
use Rattle.report_text.specs.Search.Text.{report_text}
use Rattle.report_text.specs.declared.search.report.Outcome.{Outcome}
use Rattle.report_text.specs.declared.search.report.Outcome.TheVariants.{Yes, No, Unknown}
use Rattle.report_text.specs.declared.search.report.Report.{Report}
use Rattle.search_report.specs.Answer.{IsAnswer, IsRefused}
use Rattle.search_report.specs.Meaning.{IsWholeOutcome}
use Rattle.regcheck_c.specs.Called.{answer_of_refusal, IsPut}
use Rattle.regcheck_c.specs.declared.answer.Answer.{Answer}

-- a bound by a caller's number: 0 is the default, and past the most it is the most
abbrev pub bound_of : ℕ → ℕ → ℕ → ℕ
bound_of default most number = if number == 0 then default else min number most

abbrev pub steps_of : ℕ → ℕ
steps_of number = bound_of 1000000000 1000000000000 number

abbrev pub configurations_of : ℕ → ℕ
configurations_of number = bound_of 65536 1048576 number

-- the status of a report that there is room for
abbrev pub status_of_outcome : Outcome → ℕ
status_of_outcome Yes = 0
status_of_outcome No = 1
status_of_outcome Unknown = 6

-- the bytes of a report of an input, and the status that they are given with
abbrev pub IsReported : List ℕ → List ℕ → ℕ → Type 0
IsReported input bytes status =
    (report : Report) × IsAnswer input (Ok report) × (bytes ≡ report_text report)
    × (status ≡ status_of_outcome report.atomic)
    × IsWholeOutcome (events_of (history_lines input)) report.atomic

-- the refusal is said, and the place is as it was
abbrev pub IsRefusal : Refusal → List ℕ → List ℕ → Answer → Type 0
IsRefusal refusal old new answer =
    (answer ≡ answer_of_refusal (number_of refusal) (line_of refusal) (other_of refusal)) × (new ≡ old)

-- an input was answered: by a report of it, or by its refusal or because memory ran out
abbrev pub IsAnswered : List ℕ → List ℕ → List ℕ → Answer → Type 0
IsAnswered input old new answer =
    ((bytes : List ℕ) × (status : ℕ) × IsReported input bytes status × IsPut bytes status old new answer)
    ⊎ ((refusal : Refusal) × IsRefused input refusal × IsRefusal refusal old new answer)

-- a line of this length is said of an input only if it is refused
abbrev pub IsSaidOf : List ℕ → ℕ → Type 0
IsSaidOf input size = (size ≡ 0) ⊎ ((refusal : Refusal) × IsAnswer input (Err refusal))

-- the status of an input's answer says whether its history is atomic, if it says either
pub record TellsAtomic (input : List ℕ) (status : ℕ) : Type 0 where
  pub atomic : status ≡ 0 → IsWholeOutcome (events_of (history_lines input)) Yes
  pub not_atomic : status ≡ 1 → IsWholeOutcome (events_of (history_lines input)) No
