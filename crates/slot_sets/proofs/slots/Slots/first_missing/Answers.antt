use Rattle.std.proofs.Common.{arith}
use Rattle.slot_sets.proofs.FirstSlot.{all_before, first_clear}
use Rattle.slot_sets.proofs.slots.Slots.first_missing.Goals as goal

pub returns-then-self-at : goal.returns-then-self-at
returns-then-self-at g c =
    let first =
    first_clear c.self.inside.words c.loop-at.at c.loop-at.invariant (omega arith) c.if-self-at.true in
    rw (← c.self.view_is, c.trailing_ones.ensures) (omega (arith, first.0), first.1, first.2)

pub returns : goal.returns
returns g c q within =
    rw (← c.self.view_is) (all_before c.self.inside.words c.loop-at.at c.loop-at.invariant q (omega arith))
