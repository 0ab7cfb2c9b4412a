use Rattle.std.proofs.Common.{◌∙◌, ap, refl, subst, sym, Some}
use Rattle.level_report.specs.Causal.{IsCausalOrderShown}
use Rattle.level_report.specs.Guarantees.{lines_of}
use Rattle.level_report.proofs.CausalShown.{operations-are}
use Rattle.level_report.proofs.causal.order_if.Goals as goal

pub returns-in_ok-called_lines-in-true : goal.returns-in_ok-called_lines-in-true
returns-in_ok-called_lines-in-true c =
    let lines = c.in_ok-called_lines-in-true.field-0 in
    subst (λ b. IsCausalOrderShown c.args.ops.now b (Some lines)) (sym c.in-true.is) (
      lines,
      refl,
      (
        c.requires.0,
        c.requires.2,
        c.in_ok-called_lines-in-true.ensures
            ∙ ap lines_of (operations-are c.args.ops.now c.args.places.now c.requires.0 c.requires.1),
      ),
    )
