-- The lines before those that are left were taken in.
use Rattle.std.specs.Vec.Iter.{into_iter_items}
use Rattle.reg_intake.proofs.CasHistoryLemmas.Taking.{IsTakenTo}
use Rattle.reg_intake.proofs.cas_history.lines.take_lines.Given as goal

abbrev pub invariant-loop-line : goal.invariant-loop-line
invariant-loop-line l =
    goal.iterator-loop-line.can_next l.line-iterator
    × goal.iterator-loop-line.is_finite l.line-iterator
    × IsTakenTo l.fn.lines.items (into_iter_items l.line-iterator) l.fn.events l.events
