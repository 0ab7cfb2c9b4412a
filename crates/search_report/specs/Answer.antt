-- The answer to an input.
use Rattle.std.specs.Prelude.{◌≡◌, ◌⊎◌, ℕ, List, length, nat_lt, MatchBool, Result, Ok, Err}
use Rattle.history_text.specs.declared.limits.TheConstants.{MAX_INPUT}
use Rattle.history_model.specs.Table.{events_of}
use Rattle.reg_intake.specs.CasHistory.Refusals.{Line, IsRefusal, IsWellFormed}
use Rattle.reg_intake.specs.CasHistory.Input.{history_lines}
use Rattle.reg_intake.specs.declared.refusal.Refusal.{Refusal}
use Rattle.reg_intake.specs.declared.refusal.Refusal.TheVariants.{At, TooLong, InputFailed}
use Rattle.reg_intake.specs.declared.refusal.Refusal.TheVariants.{NoRoom, OutputFailed}
use Rattle.report_text.specs.Search.Text.{report_text}
use Rattle.report_text.specs.declared.search.report.Outcome.{Outcome}
use Rattle.report_text.specs.declared.search.report.Report.{Report}
use Rattle.search_report.specs.Meaning.{IsReport}

-- of the lines of an input: a report of their history if they are well formed,
-- otherwise the refusal of the first faulty one
abbrev pub IsAnswerToLines : List Line → Result Report Refusal → Type 0
IsAnswerToLines lines (Ok report) = IsWellFormed lines × IsReport (events_of lines) report
IsAnswerToLines lines (Err (At r)) = IsRefusal lines r
IsAnswerToLines lines (Err TooLong) = ⊥
IsAnswerToLines lines (Err InputFailed) = ⊥
IsAnswerToLines lines (Err NoRoom) = ⊥
IsAnswerToLines lines (Err OutputFailed) = ⊥

-- of an input: it is too long, or else the answer is that of its lines
abbrev pub IsAnswer : List ℕ → Result Report Refusal → Type 0
IsAnswer input result =
    MatchBool (nat_lt MAX_INPUT (length input)) (result ≡ Err TooLong)
    (IsAnswerToLines (history_lines input) result)

-- an answer as bytes, those of a report, and what it says of the whole history
abbrev pub IsAnswerText : List ℕ → List ℕ → Outcome → Type 0
IsAnswerText input bytes told =
    (report : Report) × IsAnswer input (Ok report) × (bytes ≡ report_text report) × (told ≡ report.atomic)

-- why there is no answer: the refusal is the answer, or memory ran out
abbrev pub IsRefused : List ℕ → Refusal → Type 0
IsRefused input refusal = (refusal ≡ NoRoom) ⊎ IsAnswer input (Err refusal)
