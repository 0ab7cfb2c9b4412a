use Rattle.std.proofs.Common.{arith}
use Rattle.slot_sets.proofs.OneSlot.{has_past}
use Rattle.slot_sets.proofs.FirstSlot.{left_at_first, left_at_next, none_left, first_left}
use Rattle.slot_sets.proofs.slots.Slots.first_from.Goals as goal

pub returns-then-at : goal.returns-then-at
returns-then-at g c q above = rw (← c.self.view_is) (has_past c.self.inside.words q (omega arith))

pub loop-word-init : goal.loop-word-init
loop-word-init g c = (c.if-at.false, left_at_first c.self.inside.words c.args.from (omega arith))

pub returns-then-at-2 : goal.returns-then-at-2
returns-then-at-2 g c =
    let left = rw c.loop-word-test.true at c.loop-word.invariant.1 in
    rw (← c.self.view_is) (none_left c.self.inside.words c.args.from c.loop-word.at (omega arith) left)

pub loop-word-preserved : goal.loop-word-preserved
loop-word-preserved g c =
    let left = rw c.loop-word-test.true at c.loop-word.invariant.1 in
    (c.if-at-2.false, left_at_next c.self.inside.words c.args.from c.loop-word.at (omega arith) left)

pub returns : goal.returns
returns g c =
    let first =
    first_left c.self.inside.words c.args.from c.loop-word.at c.loop-word.word c.loop-word.invariant.1
    c.loop-word-test.false in
    rw (← c.self.view_is) (first.0, omega (arith, first.1), omega (arith, first.1), first.2, first.3)
