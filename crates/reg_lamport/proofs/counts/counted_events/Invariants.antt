use Rattle.reg_lamport.proofs.CountedEvents.{AreCounting}
use Rattle.reg_lamport.proofs.counts.counted_events.Given as goal

abbrev pub invariant-loop-number : goal.invariant-loop-number
invariant-loop-number l = AreCounting l.arena l.number l.counts.items
