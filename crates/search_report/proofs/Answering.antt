-- A report of an input's history is the answer to the input, and a refusal of its lines is its refusal.
use Rattle.std.proofs.Common.{◌≡◌, ◌≤◌, ℕ, List, length, Result, Ok, Err, inl, inr, refl, subst, sym}
use Rattle.std.specs.Prelude.{MatchBool}
use Rattle.history_text.specs.declared.limits.TheConstants.{MAX_INPUT}
use Rattle.history_model.specs.Table.{events_of}
use Rattle.reg_intake.specs.declared.cas_history.history.History.{History}
use Rattle.history_model.specs.declared.refusal.BuildError.{BuildError}
use Rattle.history_model.specs.declared.refusal.BuildError.TheVariants.{Refused, Memory}
use Rattle.reg_intake.specs.CasHistory.Input.{IsHistoryOfInput, history_lines}
use Rattle.reg_intake.specs.Refusals.{of_build}
use Rattle.reg_intake.specs.CasHistory.Taken.{IsNoHistory}
use Rattle.reg_intake.specs.declared.refusal.Refusal.{Refusal}
use Rattle.reg_intake.specs.declared.refusal.Refusal.TheVariants.{At, TooLong}
use Rattle.report_text.specs.declared.search.report.Report.{Report}
use Rattle.search_report.specs.Answer.{IsAnswer, IsAnswerToLines, IsRefused}
use Rattle.search_report.specs.Meaning.{IsReport}
use Rattle.std.proofs.lemmas.Bool.{le-ltb}

pub answer-to : (input : List ℕ) (history : History) (report : Report) → IsHistoryOfInput input history
    → IsReport (events_of (history_lines input)) report → IsAnswer input (Ok report)
answer-to input history report read is =
    subst (λ b. MatchBool b (◌≡◌ {A = Result Report Refusal} (Ok report) (Err TooLong))
    (IsAnswerToLines (history_lines input) (Ok report)))
    (sym (le-ltb MAX_INPUT (length input) read.within)) (read.well_formed, is)

pub refused-within : (input : List ℕ) → length input ≤ MAX_INPUT → (e : BuildError)
    → IsNoHistory (history_lines input) e → IsRefused input (of_build e)
refused-within input within (Refused r) is =
    inr (subst (λ b. MatchBool b (◌≡◌ {A = Result Report Refusal} (Err (At r)) (Err TooLong))
    (IsAnswerToLines (history_lines input) (Err (At r))))
    (sym (le-ltb MAX_INPUT (length input) within)) is)
refused-within input within Memory is = inl refl
