-- The answer to an input within its limit is the answer to its lines.
use Rattle.std.proofs.Common.{◌≡◌, ◌≤◌, ℕ, List, length, Bool, true, false, nat_lt}
use Rattle.std.proofs.Common.{Ok, Err, refl, subst, arith}
use Rattle.std.specs.Prelude.{MatchBool, Result}
use Rattle.std.proofs.lemmas.Bool.{ltb-true}
use Rattle.history_text.specs.declared.limits.TheConstants.{MAX_INPUT}
use Rattle.history_text.specs.Reading.{history_lines}
use Rattle.history_model.specs.History.{History}
use Rattle.reg_intake.specs.Arena.{IsArenaOf}
use Rattle.reg_report.specs.Answer.{IsAnswer, IsAnswerToLines}
use Rattle.reg_report.specs.First.{IsReportBy}
use Rattle.reg_intake.specs.declared.refusal.Refusal.{Refusal}
use Rattle.reg_intake.specs.declared.refusal.Refusal.TheVariants.{TooLong}
use Rattle.report_text.specs.declared.check.report.Report.{Report}

pub answer-within : (first : Bool) (input : List ℕ) (answer : Result Report Refusal)
    → length input ≤ MAX_INPUT → IsAnswerToLines first (history_lines input) answer
    → IsAnswer first input answer
answer-within first input answer within answered = go (nat_lt MAX_INPUT (length input)) refl
  where
    go : (b : Bool) → nat_lt MAX_INPUT (length input) ≡ b
        → MatchBool b (answer ≡ Err TooLong) (IsAnswerToLines first (history_lines input) answer)
    go true e = let l = ltb-true MAX_INPUT (length input) e in absurd (omega (arith, l, within))
    go false e = answered

-- the report of an input's arena is the answer
pub answer-of-arena : (first : Bool) (input : List ℕ) (arena : History) (report : Report)
    → IsArenaOf input arena → IsReportBy first arena report → IsAnswer first input (Ok report)
answer-of-arena first input arena report a r =
    answer-within first input (Ok report) a.within (
      a.well_formed,
      subst (λ (h : History). IsReportBy first h report) a.is r,
    )
