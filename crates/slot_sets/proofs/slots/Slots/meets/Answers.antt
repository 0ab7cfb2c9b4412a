use Rattle.std.proofs.Common.{arith}
use Rattle.slot_sets.proofs.WordByWord.{common_slot, nothing_common}
use Rattle.slot_sets.proofs.slots.Slots.meets.Goals as goal

pub returns-then-self-at-ne0-clause-yes : goal.returns-then-self-at-ne0-clause-yes
returns-then-self-at-ne0-clause-yes g c _ =
    rw (← c.self.view_is, ← c.other.view_is)
    (common_slot c.self.inside.words c.other.inside.words c.loop-at.at (omega arith) c.if-self-at-ne0.true)

pub returns-clause-no : goal.returns-clause-no
returns-clause-no g c _ =
    rw (← c.self.view_is, ← c.other.view_is)
    (nothing_common g.row.W c.self.inside.words c.other.inside.words c.self.told
    (λ j h. c.loop-at.invariant j (omega arith)))
