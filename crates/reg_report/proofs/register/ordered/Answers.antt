use Rattle.std.proofs.Common.{ap, sym, subst, ◌∙◌}
use Rattle.reg_report.specs.Lines.{HaveCalls, HavePoints, call_line, point_line, lines_by}
use Rattle.reg_report.proofs.Atomic.{order-atomicity, order-calls, order-points}
use Rattle.reg_report.proofs.register.ordered.Goals as goal

pub order_lines-requires : goal.order_lines-requires
order_lines-requires c =
    subst (HaveCalls c.args.arena.now) (sym c.as_slice.ensures)
    (order-calls c.args.arena.now c.arena_laws.ensures c.args.register.0 c.args.order.now c.requires.1)

pub point_lines-requires : goal.point_lines-requires
point_lines-requires c =
    subst (HavePoints c.args.arena.now) (sym c.as_slice-2.ensures)
    (order-points c.args.arena.now c.arena_laws.ensures c.args.register.0 c.args.order.now c.requires.1)

pub returns : goal.returns
returns c regular =
    let h = c.args.arena.now in
    order-atomicity h c.arena_laws.ensures c.args.register.0 c.args.order.now c.requires.1 c.requires _ _
    (c.in_ok-order_lines.ensures ∙ ap (lines_by (call_line h.events)) c.as_slice.ensures)
    (c.in_ok-point_lines.ensures ∙ ap (lines_by (point_line h.events)) c.as_slice-2.ensures)
