use Rattle.std.proofs.Common.{◌≡◌, ◌++◌, drop}
use Rattle.reg_report.specs.Lines.{call_line, lines_by}
use Rattle.reg_report.proofs.order_lines.order_lines.Given as goal

abbrev pub invariant-loop-placed : goal.invariant-loop-placed
invariant-loop-placed l =
    l.lines.items ++ lines_by (call_line l.arena.events) (drop l.placed-index l.order)
    ≡ lines_by (call_line l.arena.events) l.order
