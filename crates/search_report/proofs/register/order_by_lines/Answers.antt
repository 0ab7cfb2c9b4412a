use Rattle.search_report.proofs.Told.{order-told}
use Rattle.search_report.proofs.register.order_by_lines.Goals as goal

pub returns : goal.returns
returns c = λ r timed checked.
    order-told c.args.lines.now r c.args.ops.now timed c.args.order.now c.args.points.now
    c.in_ok-lines_of_places.field-0 c.in_ok-lines_of_times.field-0
    c.in_ok-lines_of_places.ensures c.in_ok-lines_of_times.ensures checked
