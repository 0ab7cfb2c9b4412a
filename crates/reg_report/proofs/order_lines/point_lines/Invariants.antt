use Rattle.std.proofs.Common.{◌≡◌, ◌++◌, drop}
use Rattle.reg_report.specs.Lines.{point_line, lines_by}
use Rattle.reg_report.proofs.order_lines.point_lines.Given as goal

abbrev pub invariant-loop-placed : goal.invariant-loop-placed
invariant-loop-placed l =
    l.lines.items ++ lines_by (point_line l.arena.events) (drop l.placed-index l.order)
    ≡ lines_by (point_line l.arena.events) l.order
