use Rattle.std.proofs.Common.{◌≡◌, ◌++◌, ◌∙◌, ◌+◌, ap, sym, subst, arith, drop, Vec, Global, ℕ}
use Rattle.reg_report.specs.Lines.{call_line, call_of, lines_by}
use Rattle.reg_report.specs.Meaning.{line_at}
use Rattle.reg_report.proofs.OrderLines.{called-more, initial-more, line_at-event}
use Rattle.reg_report.proofs.order_lines.order_lines.Goals as goal
use Rattle.reg_report.proofs.order_lines.order_lines.Goals.{in-Called+in_ok-push, in_default}

pub loop-placed-preserved : goal.loop-placed-preserved
loop-placed-preserved c =
    let h = c.args.arena.now in
    let order = c.args.order.now in
    let i = c.loop-placed.placed-index in
    elim c.match-placed.branch [
      | in-Called+in_ok-push w ↦
          let pushed = w.in_ok-push.ensures in
          let items = ap (λ (v : Vec ℕ Global). v.items) w.lines-is ∙ pushed.items in
          called-more (call_line h.events) order i _ w.in-Called.id w.event.result.line
          c.loop-placed.lines.items c.match-placed.lines.items (lines_by (call_line h.events) order)
          c.loop-placed-test.true w.in-Called.is
          (sym (ap (λ o. line_at h.events (call_of o)) w.in-Called.is
          ∙ line_at-event h.events _ w.in-Called.id.0 w.event.result (omega arith) w.event.ensures.at))
          items c.loop-placed.invariant
      | in_default w ↦
          subst (λ (v : Vec ℕ Global). v.items
          ++ lines_by (call_line h.events) (drop (i + 1) order) ≡ lines_by (call_line h.events) order)
          (sym w.lines-is)
          (initial-more (call_line h.events) order i _ w.in_default.field-0 c.loop-placed.lines.items
          (lines_by (call_line h.events) order) c.loop-placed-test.true w.in_default.is
          c.loop-placed.invariant)
    ]
