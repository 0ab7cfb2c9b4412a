use Rattle.std.proofs.Common.{◌≡◌, ◌∙◌, Some, subst, sym}
use Rattle.std.proofs.lemmas.Option.{same_Some}
use Rattle.report_text.specs.declared.level.report.Required.{Required}
use Rattle.level_report.specs.Answer.{IsOutcome}
use Rattle.level_report.specs.declared.outcome.Outcome.{Outcome}
use Rattle.level_report.specs.declared.outcome.Outcome.TheVariants.{Kept, Broken, Unknown}
use Rattle.level_report.specs.declared.settings.Settings.{Settings}
use Rattle.regcheck_c.specs.Leveling.{addition_of, level_of, IsAnsweredBy, IsAnsweredFor, TellsOf}
use Rattle.regcheck_c.proofs.leveling.reglevel_report.Goals as goal

pub returns-in-Some-Some-clause-answered : goal.returns-in-Some-Some-clause-answered
returns-in-Some-Some-clause-answered c =
    let input = c.args.input.now in
    let old = c.args.out.now in
    let new = c.answered.new.out in
    let said = c.answered.result in
    let level = sym c.level.ensures ∙ c.in-Some-Some.is-0 in
    let asked = sym c.asked.ensures ∙ c.in-Some-Some.is-1 in
    subst (λ l. IsAnsweredBy l (addition_of c.args.more) input old new said) (sym level)
    (subst (λ a. IsAnsweredBy (Some c.in-Some-Some.level) a input old new said) (sym asked)
    (subst (λ (s : Settings). IsAnsweredFor s.required s.asked input old new said) c.alone-settings.ensures
    c.answered.ensures.answered))

pub returns-in-Some-Some-clause-level : goal.returns-in-Some-Some-clause-level
returns-in-Some-Some-clause-level c =
    let input = c.args.input.now in
    let tells = subst (λ (s : Settings). TellsOf s.required input c.answered.result.status)
    c.alone-settings.ensures c.answered.ensures.level in
    let same : (level : Required) → level_of c.args.required ≡ Some level → c.in-Some-Some.level ≡ level =
    λ level at. same_Some _ _ (sym c.in-Some-Some.is-0 ∙ c.level.ensures ∙ at) in
    let told : (level : Required) → level_of c.args.required ≡ Some level → (o : Outcome)
    → IsOutcome c.in-Some-Some.level input o → IsOutcome level input o =
    λ level at o. subst (λ l. IsOutcome l input o) (same level at) in
    record {
      kept = λ q level at. told level at Kept (tells.kept q);
      broken = λ q level at. told level at Broken (tells.broken q);
      unknown = λ q level at. told level at Unknown (tells.unknown q);
    }
