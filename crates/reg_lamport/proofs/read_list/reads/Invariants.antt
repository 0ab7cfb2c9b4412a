use Rattle.history_model.specs.Walking.{walk_left}
use Rattle.reg_lamport.proofs.Passing.{IsGathering}
use Rattle.reg_lamport.proofs.read_list.reads.Given as goal

abbrev pub invariant-loop-next : goal.invariant-loop-next
invariant-loop-next l = IsGathering l.arena l.register.0 l.gathering l.next

abbrev pub decreases-loop-next : goal.decreases-loop-next
decreases-loop-next l = walk_left l.arena.events l.next
