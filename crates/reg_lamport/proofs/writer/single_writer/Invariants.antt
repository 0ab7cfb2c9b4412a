use Rattle.history_model.specs.Walking.{walk_left}
use Rattle.reg_lamport.proofs.Writers.{IsWriterSoFar}
use Rattle.reg_lamport.proofs.writer.single_writer.Given as goal

abbrev pub invariant-loop-next : goal.invariant-loop-next
invariant-loop-next l = IsWriterSoFar l.arena l.fn.register.0 l.writer l.next

abbrev pub decreases-loop-next : goal.decreases-loop-next
decreases-loop-next l = walk_left l.arena.events l.next
