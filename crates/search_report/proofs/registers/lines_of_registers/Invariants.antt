-- There are lines of the first registers, and findings of the others.
use Rattle.std.proofs.Common.{drop, length, Vec, Global}
use Rattle.std.specs.List.{AllZip}
use Rattle.std.specs.Vec.Iter.{into_iter_items}
use Rattle.history_model.specs.declared.operation.Operation.{Operation}
use Rattle.search_report.specs.Registers.{AreFirstLines, IsFinding}
use Rattle.search_report.proofs.registers.lines_of_registers.Given as goal

abbrev pub invariant-loop-finding : goal.invariant-loop-finding
invariant-loop-finding l =
    goal.iterator-loop-finding.can_next l.finding-iterator
    × goal.iterator-loop-finding.is_finite l.finding-iterator
    × AreFirstLines l.history (length l.reports.items) l.reports.items
    × AllZip (λ (ops : Vec Operation Global) finding. IsFinding l.history.lines.items ops.items finding)
    (drop (length l.reports.items) l.history.registers.items) (into_iter_items l.finding-iterator)
