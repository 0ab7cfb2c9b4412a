-- The line of the first register that isn't atomic, or none, and what it says of the whole history.
use Rattle.std.proofs.Common.{◌≡◌, ◌<◌, ℕ, Bool, true, false, List, [], ◌∷◌, length, cond}
use Rattle.std.proofs.Common.{nat_lt, Option, Some, None, Ok, Err, inl, inr, sym, subst}
use Rattle.std.specs.Prelude.{MatchBool, is_none}
use Rattle.std.proofs.lemmas.Bool.{cases_lt}
use Rattle.history_text.specs.declared.limits.TheConstants.{MAX_INPUT}
use Rattle.history_text.specs.Reading.{history_lines}
use Rattle.history_model.specs.History.{History, history_of}
use Rattle.history_model.specs.Legal.{IsAtomic}
use Rattle.history_model.specs.Operations.{operations, register_of}
use Rattle.history_model.specs.Refusals.{events_of}
use Rattle.history_model.specs.declared.ids.RegId.{RegId}
use Rattle.reg_report.specs.Pieces.Workers.{IsFirstFound}
use Rattle.reg_report.specs.Answer.{IsAnswer, IsAnswerToLines, outcome_of}
use Rattle.reg_report.specs.First.{AreFoundLines, IsReportBy}
use Rattle.reg_report.specs.Meaning.{IsRegisterReport, IsWholeAtomicity}
use Rattle.reg_report.specs.Run.{IsOutcome}
use Rattle.reg_report.specs.ArenaLaws.{ObeysLaws}
use Rattle.reg_report.specs.declared.outcome.Outcome.TheVariants.{Atomic, NotAtomic}
use Rattle.reg_intake.specs.declared.refusal.Refusal.TheVariants.{TooLong}
use Rattle.report_text.specs.declared.check.report.RegReport.{RegReport}
use Rattle.report_text.specs.declared.check.report.Report.{Report}
use Rattle.reg_report.proofs.Locality.{each, nothing_atomic}

module _ (h : History) (t : ObeysLaws h) (found : Option RegId) (regs : List RegReport)
    (f : IsFirstFound h found) where
  pub no-line : found ≡ None → regs ≡ [] → AreFoundLines h (is_none found) regs
  no-line e q = subst (λ o. AreFoundLines h (is_none o) regs) (sym e) (whole, q)
    where
      all : (r : ℕ) → r < length h.names → IsAtomic (register_of h r)
      all = subst (IsFirstFound h) e f

      whole : IsAtomic (operations h)
      whole =
          (each (operations h) t.history).1 (λ r. elim (cases_lt r (length h.names)) [
            | inl l ↦ all r l
            | inr l ↦ nothing_atomic h r t.numbered l
          ])

  pub one-line : (register : RegId) (reg : RegReport) → found ≡ Some register
      → IsRegisterReport h register.0 reg → regs ≡ reg ∷ [] → AreFoundLines h (is_none found) regs
  one-line register reg e line q =
      let first = subst (IsFirstFound h) e f in
      subst (λ o. AreFoundLines h (is_none o) regs) (sym e) (
        λ whole.
            first.faulty ((each (operations h) t.history).0 whole register.0),
        (register.0, reg, first, line, q),
      )

-- ---- the outcome

abbrev history_in : List ℕ → History
history_in input = history_of (events_of (history_lines input))

by-lines : (input : List ℕ) (atomic : Bool) (regs : List RegReport)
    → AreFoundLines (history_in input) atomic regs → IsOutcome input (cond atomic Atomic NotAtomic)
by-lines input true regs a = a.0
by-lines input false regs a = a.0

by-whole : (input : List ℕ) (atomic : Bool) (order : Option (List ℕ))
    → IsWholeAtomicity (history_in input) atomic order → IsOutcome input (cond atomic Atomic NotAtomic)
by-whole input true order a = a.0
by-whole input false order a = a.0

by-report : (first : Bool) (input : List ℕ) (report : Report) → IsReportBy first (history_in input) report
    → IsOutcome input (outcome_of report)
by-report true input report a = by-lines input report.atomic report.regs a.lines
by-report false input report a = by-whole input report.atomic report.order a.atomic

-- the outcome of an answer tells whether the history is atomic
pub told-outcome : (first : Bool) (input : List ℕ) (report : Report) → IsAnswer first input (Ok report)
    → IsOutcome input (outcome_of report)
told-outcome first input report a = go (nat_lt MAX_INPUT (length input)) a
  where
    go : (b : Bool)
        → MatchBool b (Ok report ≡ Err TooLong) (IsAnswerToLines first (history_lines input) (Ok report))
        → IsOutcome input (outcome_of report)
    go true e = absurd (cc e)
    go false x = by-report first input report x.1
