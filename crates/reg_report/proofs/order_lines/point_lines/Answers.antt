use Rattle.std.proofs.Common.{◌≡◌, ◌++◌, ◌∙◌, ◌+◌, ap, sym, subst, drop, arith, Vec, Global, ℕ}
use Rattle.reg_report.specs.Lines.{point_line, lines_by}
use Rattle.reg_report.proofs.OrderLines.{called-more, initial-more, line_at-event, point-at}
use Rattle.reg_report.proofs.order_lines.point_lines.Goals as goal
use Rattle.reg_report.proofs.order_lines.point_lines.Goals.{in-Called+in_ok-push, in_default}

pub at-requires : goal.at-requires
at-requires c =
    (point-at c.args.arena.now c.args.order.now c.loop-placed.placed-index _ c.in-Called.field-0 c.requires
    c.loop-placed-test.true c.in-Called.is).0

pub event-requires : goal.event-requires
event-requires c =
    let p =
    point-at c.args.arena.now c.args.order.now c.loop-placed.placed-index _ c.in-Called.field-0 c.requires
    c.loop-placed-test.true c.in-Called.is in omega (arith, c.at.ensures, p.1)

pub loop-placed-preserved : goal.loop-placed-preserved
loop-placed-preserved c =
    let h = c.args.arena.now in
    let order = c.args.order.now in
    let i = c.loop-placed.placed-index in
    elim c.match-placed.branch [
      | in-Called+in_ok-push w ↦
          let pushed = w.in_ok-push.ensures in
          let items = ap (λ (v : Vec ℕ Global). v.items) w.lines-is ∙ pushed.items in
          called-more (point_line h.events) order i _ w.in-Called.field-0 w.event.result.line
          c.loop-placed.lines.items c.match-placed.lines.items (lines_by (point_line h.events) order)
          c.loop-placed-test.true w.in-Called.is
          (sym (line_at-event h.events _ _ w.event.result (sym w.at.ensures) w.event.ensures.at)) items
          c.loop-placed.invariant
      | in_default w ↦
          subst (λ (v : Vec ℕ Global). v.items
          ++ lines_by (point_line h.events) (drop (i + 1) order) ≡ lines_by (point_line h.events) order)
          (sym w.lines-is)
          (initial-more (point_line h.events) order i _ w.in_default.field-0 c.loop-placed.lines.items
          (lines_by (point_line h.events) order) c.loop-placed-test.true w.in_default.is
          c.loop-placed.invariant)
    ]
