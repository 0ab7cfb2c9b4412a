use Rattle.std.proofs.Common.{◌+◌, ◌≤◌}
use Rattle.history_model.specs.Walking.{IsOnWalk, walk_left}
use Rattle.reg_zones.proofs.walk.room_for.Given as goal

abbrev pub invariant-loop-next : goal.invariant-loop-next
invariant-loop-next l = record {
  on : IsOnWalk l.register.arena.now.events l.register.id.0 l.next;
  bound : l.room + l.left ≤ 64;
}

abbrev pub decreases-loop-next : goal.decreases-loop-next
decreases-loop-next l = walk_left l.register.arena.now.events l.next
