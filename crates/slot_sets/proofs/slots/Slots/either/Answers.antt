use Rattle.std.proofs.Common.{arith}
use Rattle.slot_sets.proofs.WordByWord.{has-xor}
use Rattle.slot_sets.proofs.slots.Slots.either.Goals as goal

pub returns : goal.returns
returns g c =
    let words = c.loop-at.invariant in
    rw (← c.self.view_is, ← c.other.view_is)
    (has-xor g.row.W c.self.inside.words c.other.inside.words c.loop-at.words c.self.told c.other.told words.0
    (λ j h. words.1 j (omega arith)))
