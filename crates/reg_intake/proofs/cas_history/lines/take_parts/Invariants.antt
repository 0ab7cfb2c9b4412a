-- The parts before those that are left were taken in.
use Rattle.std.specs.Vec.Iter.{into_iter_items}
use Rattle.reg_intake.specs.CasHistory.Taken.{read_in}
use Rattle.reg_intake.proofs.CasHistoryLemmas.Taking.{IsTakenTo}
use Rattle.reg_intake.proofs.cas_history.lines.take_parts.Given as goal

abbrev pub invariant-loop-part : goal.invariant-loop-part
invariant-loop-part l =
    goal.iterator-loop-part.can_next l.part-iterator
    × goal.iterator-loop-part.is_finite l.part-iterator
    × IsTakenTo (read_in l.fn.parts.items) (read_in (into_iter_items l.part-iterator)) l.fn.events l.events
