use Rattle.std.proofs.Common.{◌-◌, ◌<◌}
use Rattle.slot_sets.proofs.FirstSlot.{IsLeft}
use Rattle.slot_sets.proofs.slots.Slots.first_from.Given as goal

abbrev pub invariant-loop-word : goal.invariant-loop-word
invariant-loop-word g l = (l.at < g.row.W) × IsLeft l.words l.from l.at l.word

abbrev pub decreases-loop-word : goal.decreases-loop-word
decreases-loop-word g l = g.row.W - l.at
