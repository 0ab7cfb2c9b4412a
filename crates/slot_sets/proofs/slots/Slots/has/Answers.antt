use Rattle.std.proofs.Common.{◌∙◌, sym, arith}
use Rattle.std.proofs.lemmas.Bool.{le-ltb}
use Rattle.slot_sets.proofs.OneSlot.{has_past, has-test}
use Rattle.slot_sets.proofs.slots.Slots.has.Goals as goal

pub returns-then-at : goal.returns-then-at
returns-then-at g c = rw (← c.self.view_is) (has-test c.self.inside.words c.args.slot)

pub returns-else-at : goal.returns-else-at
returns-else-at g c =
    rw (← c.self.view_is) (le-ltb _ _ c.if-at.false
    ∙ sym (has_past c.self.inside.words c.args.slot (omega arith)))
