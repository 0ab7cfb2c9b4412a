use Rattle.std.proofs.Common.{◌≡◌, ◌<◌, ◌*◌, ◌-◌, ℕ, true}
use Rattle.slot_sets.specs.Sets.{has}
use Rattle.configurations.specs.Configs.{AreApart, AreKept, IsTried}
use Rattle.configurations.proofs.reply.try_each.Given as goal

abbrev pub invariant-loop-slot : goal.invariant-loop-slot
invariant-loop-slot g l = record {
  apart : AreApart l.table l.reply l.lists.work l.lists.next;
  kept : AreKept l.fn.lists.work l.fn.lists.next l.lists.work l.lists.next;
  tried : (q : ℕ) → q < l.at → has l.slots q ≡ true
      → IsTried l.table l.config q l.reply l.lists.work l.lists.next;
}

abbrev pub decreases-loop-slot : goal.decreases-loop-slot
decreases-loop-slot g l = 64 * g.row.W - l.at
