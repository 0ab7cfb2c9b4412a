use Rattle.std.proofs.Common.{◌+◌, None}
use Rattle.history_model.specs.Walking.{walk_left}
use Rattle.reg_zones.specs.Ahead.{IsAhead}
use Rattle.reg_zones.specs.Register.{operations_of}
use Rattle.reg_zones.specs.Sweep.{IsUnwrittenAt}
use Rattle.reg_zones.proofs.Walks.{IsWalk}
use Rattle.reg_zones.proofs.FirstReads.{IsEarlySoFar}
use Rattle.reg_zones.proofs.Passing.{IsComparing}
use Rattle.reg_zones.proofs.pass.pass.Given as goal

-- each completed read that is called behind the walk has its write; the
-- first early one of them; and the zones met
abbrev pub invariant-loop-ahead : goal.invariant-loop-ahead
invariant-loop-ahead l = record {
  ahead : IsAhead l.register.arena.now l.register.id.0 l.ahead;
  walk : IsWalk l.register.arena.now.events l.register.id.0
      (λ i. IsUnwrittenAt (operations_of l.register) (i + 2) None) l.ahead.next;
  early : IsEarlySoFar l.register.arena.now l.register.id.0 l.early l.ahead.next;
  comparing : IsComparing (operations_of l.register) l.clusters l.ahead.next;
}

abbrev pub decreases-loop-ahead : goal.decreases-loop-ahead
decreases-loop-ahead l = walk_left l.register.arena.now.events l.ahead.next
