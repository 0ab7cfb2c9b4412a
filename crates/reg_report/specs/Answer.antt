-- The answer to an input.
use Rattle.std.specs.Prelude.{◌≡◌, ◌⊎◌, ℕ, List, Bool, length, nat_lt, cond, MatchBool, Result, Ok, Err}
use Rattle.history_text.specs.declared.limits.TheConstants.{MAX_INPUT}
use Rattle.history_text.specs.Reading.{history_lines}
use Rattle.history_model.specs.Refusals.{Line, IsRefusal, IsWellFormed, events_of}
use Rattle.history_model.specs.History.{history_of}
use Rattle.reg_report.specs.First.{IsReportBy}
use Rattle.report_text.specs.Check.Text.{report_text}
use Rattle.report_text.specs.declared.check.report.Report.{Report}
use Rattle.reg_report.specs.declared.outcome.Outcome.{Outcome}
use Rattle.reg_report.specs.declared.outcome.Outcome.TheVariants.{Atomic, NotAtomic}
use Rattle.reg_intake.specs.declared.refusal.Refusal.{Refusal}
use Rattle.reg_intake.specs.declared.refusal.Refusal.TheVariants.{At, TooLong, InputFailed}
use Rattle.reg_intake.specs.declared.refusal.Refusal.TheVariants.{NoRoom, OutputFailed}

-- Of the lines of an input: the report of their history if they are well formed, otherwise the refusal of the
-- first faulty one. `first` says that only the first register that isn't atomic is asked for.
abbrev pub IsAnswerToLines : Bool → List Line → Result Report Refusal → Type 0
IsAnswerToLines first lines (Ok report) =
    IsWellFormed lines × IsReportBy first (history_of (events_of lines)) report
IsAnswerToLines first lines (Err (At r)) = IsRefusal lines r
IsAnswerToLines first lines (Err TooLong) = ⊥
IsAnswerToLines first lines (Err InputFailed) = ⊥
IsAnswerToLines first lines (Err NoRoom) = ⊥
IsAnswerToLines first lines (Err OutputFailed) = ⊥

-- of an input: it is too long, or else the answer is that of its lines
abbrev pub IsAnswer : Bool → List ℕ → Result Report Refusal → Type 0
IsAnswer first input answer =
    MatchBool (nat_lt MAX_INPUT (length input)) (answer ≡ Err TooLong)
    (IsAnswerToLines first (history_lines input) answer)

-- whether the history is atomic, as the report has it
abbrev pub outcome_of : Report → Outcome
outcome_of report = cond report.atomic Atomic NotAtomic

-- the answer as bytes, those of the report, and its outcome
abbrev pub IsAnswerText : Bool → List ℕ → List ℕ → Outcome → Type 0
IsAnswerText first input bytes told =
    (report : Report) × IsAnswer first input (Ok report) × (bytes ≡ report_text report)
    × (told ≡ outcome_of report)

-- why there is no answer: the refusal is the answer, or memory ran out
abbrev pub IsRefused : Bool → List ℕ → Refusal → Type 0
IsRefused first input refusal = (refusal ≡ NoRoom) ⊎ IsAnswer first input (Err refusal)
