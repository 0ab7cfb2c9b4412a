use Rattle.std.proofs.Common.{refl, subst, sym, Some}
use Rattle.history_model.specs.declared.guarantee.Guarantee.TheVariants as guarantee
use Rattle.report_text.specs.declared.level.report.LevelName.TheVariants as level
use Rattle.level_report.specs.Guarantees.{or_else}
use Rattle.level_report.specs.Ordered.{IsOrdered}
use Rattle.level_report.specs.declared.guarantees.Ordered.{Ordered}
use Rattle.level_report.proofs.register.strongest_order.Goals as goal

pub returns-in_ok-atomic_order-in-true : goal.returns-in_ok-atomic_order-in-true
returns-in_ok-atomic_order-in-true c = λ name _.
    let order : Ordered = record { level = level.Atomic; clusters = c.in_ok-atomic_order-in-true.field-0 } in
    subst (λ b. IsOrdered c.args.ops.now c.args.table.now.clusters.items (or_else b level.Atomic name)
    (Some order)) (sym c.in-true.is)
    (order, refl, refl, (guarantee.Atomic, refl, c.in_ok-atomic_order-in-true.ensures))
