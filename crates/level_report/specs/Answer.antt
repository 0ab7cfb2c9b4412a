-- The answer to an input.
use Rattle.std.specs.Prelude.{◌≡◌, ◌⊎◌, ℕ, List, length, nat_lt, MatchBool, Result, Ok, Err}
use Rattle.history_text.specs.declared.limits.TheConstants.{MAX_INPUT}
use Rattle.history_text.specs.Reading.{history_lines}
use Rattle.history_model.specs.Refusals.{Line, IsRefusal, IsWellFormed, events_of}
use Rattle.history_model.specs.History.{History, history_of}
use Rattle.history_model.specs.Operations.{operations}
use Rattle.causal_order.specs.Decisions.{IsBeyond}
use Rattle.reg_intake.specs.declared.refusal.Refusal.{Refusal}
use Rattle.reg_intake.specs.declared.refusal.Refusal.TheVariants.{At, TooLong, InputFailed}
use Rattle.reg_intake.specs.declared.refusal.Refusal.TheVariants.{NoRoom, OutputFailed}
use Rattle.report_text.specs.Level.Text.{report_text}
use Rattle.report_text.specs.declared.level.report.Required.{Required}
use Rattle.report_text.specs.declared.level.report.Required.TheVariants.{Causal}
use Rattle.report_text.specs.declared.level.report.LevelsReport.{LevelsReport}
use Rattle.level_report.specs.Meaning.{IsReport, KeepsRequired}
use Rattle.level_report.specs.declared.outcome.Outcome.{Outcome}
use Rattle.level_report.specs.declared.outcome.Outcome.TheVariants.{Kept, Broken, Unknown}
use Rattle.level_report.specs.declared.settings.Asked.{Asked}

-- of the lines of an input: a report of their history if they are well formed, otherwise the refusal of the
-- first faulty one
abbrev pub IsAnswerToLines : Asked → List Line → Result LevelsReport Refusal → Type 0
IsAnswerToLines asked lines (Ok report) = IsWellFormed lines × IsReport (history_of (events_of lines)) asked
    report
IsAnswerToLines asked lines (Err (At r)) = IsRefusal lines r
IsAnswerToLines asked lines (Err TooLong) = ⊥
IsAnswerToLines asked lines (Err InputFailed) = ⊥
IsAnswerToLines asked lines (Err NoRoom) = ⊥
IsAnswerToLines asked lines (Err OutputFailed) = ⊥

-- of an input: it is too long, or else the answer is that of its lines
abbrev pub IsAnswer : Asked → List ℕ → Result LevelsReport Refusal → Type 0
IsAnswer asked input answer =
    MatchBool (nat_lt MAX_INPUT (length input)) (answer ≡ Err TooLong)
    (IsAnswerToLines asked (history_lines input) answer)

-- an answer as bytes, those of a report
abbrev pub IsAnswerText : Asked → List ℕ → List ℕ → Type 0
IsAnswerText asked input bytes =
    (report : LevelsReport) × IsAnswer asked input (Ok report) × (bytes ≡ report_text report)

-- why there is no answer: the refusal is the answer, or memory ran out
abbrev pub IsRefused : Asked → List ℕ → Refusal → Type 0
IsRefused asked input refusal = (refusal ≡ NoRoom) ⊎ IsAnswer asked input (Err refusal)

-- a history kept what is required, or it didn't, or it was left undecided whether it is causal
abbrev pub IsOutcomeOf : Required → History → Outcome → Type 0
IsOutcomeOf required h Kept = KeepsRequired required h
IsOutcomeOf required h Broken = KeepsRequired required h → ⊥
IsOutcomeOf required h Unknown = (required ≡ Causal) × IsBeyond (operations h)

-- the same of the history in these bytes
abbrev pub IsOutcome : Required → List ℕ → Outcome → Type 0
IsOutcome required input outcome = IsOutcomeOf required (history_of (events_of (history_lines input))) outcome

-- the bytes of a report of a history, and whether it kept what is required
abbrev pub IsAnswerOf : Asked → Required → History → List ℕ → Outcome → Type 0
IsAnswerOf asked required h bytes outcome =
    (report : LevelsReport) × IsReport h asked report × (bytes ≡ report_text report)
    × IsOutcomeOf required h outcome
