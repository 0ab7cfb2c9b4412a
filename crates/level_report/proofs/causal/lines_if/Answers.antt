use Rattle.std.proofs.Common.{◌∙◌, ap, refl, subst, sym, Some}
use Rattle.level_report.specs.Steps.{AreLinesIf, lines_at}
use Rattle.level_report.proofs.causal.lines_if.Goals as goal

pub returns-in_ok-lines_at-in-Some : goal.returns-in_ok-lines_at-in-Some
returns-in_ok-lines_at-in-Some c =
    let lines = c.in_ok-lines_at-in-Some.field-0 in
    subst (λ places. AreLinesIf c.args.ops.now places (Some lines)) (sym c.in-Some.is) (
      lines,
      refl,
      c.in_ok-lines_at-in-Some.ensures ∙ ap (lines_at c.args.ops.now) c.deref.ensures.value,
    )
