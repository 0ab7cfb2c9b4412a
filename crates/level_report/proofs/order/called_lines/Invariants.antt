-- The lines so far, and those of the places that are left, are the lines of all.
use Rattle.std.proofs.Common.{◌≡◌, ◌++◌, drop}
use Rattle.reg_levels.specs.Decisions.{operations_of_places}
use Rattle.level_report.specs.Guarantees.{lines_of}
use Rattle.level_report.proofs.order.called_lines.Given as goal

abbrev pub invariant-loop-place : goal.invariant-loop-place
invariant-loop-place l =
    lines_of (operations_of_places l.ops l.places) ≡ l.lines.items ++ lines_of (operations_of_places l.ops
    (drop l.place-index l.places))
