use Rattle.history_model.specs.Walking.{walk_left}
use Rattle.level_report.proofs.Listing.{IsListing}
use Rattle.level_report.proofs.operations.operations_of.Given as goal

abbrev pub invariant-loop-next : goal.invariant-loop-next
invariant-loop-next l = IsListing l.arena l.fn.register.0 l.ops.items l.next

abbrev pub decreases-loop-next : goal.decreases-loop-next
decreases-loop-next l = walk_left l.arena.events l.next
