use Rattle.std.proofs.Common.{◌≡◌, ℕ, Bool, List, true, false, if◌then◌else◌, ap, arith, inl, subst, sym}
use Rattle.report_text.specs.declared.level.report.Required.{Required}
use Rattle.level_report.specs.Answer.{IsAnswerText, IsOutcome}
use Rattle.level_report.specs.declared.outcome.Outcome.{Outcome}
use Rattle.level_report.specs.declared.outcome.Outcome.TheVariants.{Kept, Broken, Unknown}
use Rattle.regcheck_c.specs.Called.{IsPut}
use Rattle.regcheck_c.specs.Leveling.{status_of_outcome, TellsOf}
use Rattle.regcheck_c.specs.declared.answer.Answer.{Answer}
use Rattle.regcheck_c.proofs.leveling.answered.Goals as goal

-- a status of 0, 1 or 6 is that of the outcome, if there was room
tells : (level : Required) (input : List ℕ) (outcome : Outcome) (room : Bool) (status : ℕ)
    → IsOutcome level input outcome → status ≡ (if room then status_of_outcome outcome else 5)
    → TellsOf level input status
tells level input Kept true status is e = record {
  kept = λ _. is;
  broken = λ q. absurd (omega (arith, q, e));
  unknown = λ q. absurd (omega (arith, q, e));
}
tells level input Broken true status is e = record {
  kept = λ q. absurd (omega (arith, q, e));
  broken = λ _. is;
  unknown = λ q. absurd (omega (arith, q, e));
}
tells level input Unknown true status is e = record {
  kept = λ q. absurd (omega (arith, q, e));
  broken = λ q. absurd (omega (arith, q, e));
  unknown = λ _. is;
}
tells level input outcome false status is e = record {
  kept = λ q. absurd (omega (arith, q, e));
  broken = λ q. absurd (omega (arith, q, e));
  unknown = λ q. absurd (omega (arith, q, e));
}

pub returns-in-Ok-clause-answered : goal.returns-in-Ok-clause-answered
returns-in-Ok-clause-answered c =
    let made = c.in-Ok.ensures.ok in
    let asked = c.args.settings.asked in
    let text = subst (IsAnswerText asked c.args.input.now) (sym c.as_slice.ensures.value) made.0 in
    inl (
      c.as_slice.result.now,
      c.status_of.result,
      (c.in-Ok.outcome, text, made.1, c.status_of.ensures),
      c.put_report.ensures,
    )

pub returns-in-Ok-clause-level : goal.returns-in-Ok-clause-level
returns-in-Ok-clause-level c =
    let said = c.put_report.result in
    let put = subst (λ s. IsPut c.as_slice.result.now s c.args.out.now c.put_report.new.out said)
    c.status_of.ensures c.put_report.ensures in
    tells c.args.settings.required c.args.input.now c.in-Ok.outcome _ said.status
    c.in-Ok.ensures.ok.1 (ap (λ (a : Answer). a.status) put.0)
