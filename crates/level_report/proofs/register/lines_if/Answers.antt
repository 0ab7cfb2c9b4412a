use Rattle.std.proofs.Common.{subst}
use Rattle.level_report.specs.Ordered.{IsOrdered}
use Rattle.level_report.proofs.Strongest.{lines-for}
use Rattle.level_report.proofs.register.lines_if.Goals as goal

pub returns-in_ok-order_lines-in-Some : goal.returns-in_ok-order_lines-in-Some
returns-in_ok-order_lines-in-Some c = λ name h.
    let ops = c.args.ops.now in
    let clusters = c.args.table.now.clusters.items in
    lines-for ops clusters c.in-Some.ordered c.in_ok-order_lines-in-Some.field-0
    c.in_ok-order_lines-in-Some.ensures.level c.in_ok-order_lines-in-Some.ensures.keeps name
    (subst (IsOrdered ops clusters name) c.in-Some.is h)
