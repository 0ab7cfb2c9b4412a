use Rattle.std.proofs.Common.{arith}
use Rattle.slot_sets.proofs.OneSlot.{has_past, removed_same, removed_other}
use Rattle.slot_sets.proofs.slots.Slots.remove.Goals as goal

pub returns-then-at-clause-others : goal.returns-then-at-clause-others
returns-then-at-clause-others g c =
    rw (← c.self.view_is) (removed_other c.self.inside.words c.args.slot (omega arith))

pub returns-then-at-clause-same : goal.returns-then-at-clause-same
returns-then-at-clause-same g c = removed_same c.self.inside.words c.args.slot (omega arith)

pub returns-else-at-clause-same : goal.returns-else-at-clause-same
returns-else-at-clause-same g c =
    rw (← c.self.view_is) (has_past c.self.inside.words c.args.slot (omega arith))
