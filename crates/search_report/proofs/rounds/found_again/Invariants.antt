-- The first registers have been gone over, and the findings of the others are left.
use Rattle.std.proofs.Common.{drop, length, take}
use Rattle.std.specs.Vec.Iter.{into_iter_items}
use Rattle.search_report.specs.Registers.{AreFindingsOf}
use Rattle.search_report.proofs.rounds.found_again.Given as goal

abbrev pub invariant-loop-finding : goal.invariant-loop-finding
invariant-loop-finding l =
    goal.iterator-loop-finding.can_next l.finding-iterator
    × goal.iterator-loop-finding.is_finite l.finding-iterator
    × AreFindingsOf l.lines (take (length l.findings.items) l.registers) l.findings.items
    × AreFindingsOf l.lines (drop (length l.findings.items) l.registers)
    (into_iter_items l.finding-iterator)
