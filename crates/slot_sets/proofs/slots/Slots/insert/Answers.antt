use Rattle.std.proofs.Common.{arith}
use Rattle.slot_sets.proofs.OneSlot.{inserted_same, inserted_other}
use Rattle.slot_sets.proofs.slots.Slots.insert.Goals as goal

pub returns-then-at-clause-others : goal.returns-then-at-clause-others
returns-then-at-clause-others g c =
    rw (← c.self.view_is) (inserted_other c.self.inside.words c.args.slot (omega arith))

pub returns-then-at-clause-same : goal.returns-then-at-clause-same
returns-then-at-clause-same g c _ = inserted_same c.self.inside.words c.args.slot (omega arith)
