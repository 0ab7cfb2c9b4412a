use Rattle.slot_sets.proofs.OneSlot.{has_none}
use Rattle.slot_sets.proofs.slots.Slots.none.Goals as goal

pub returns : goal.returns
returns g c = has_none g.row.W
