use Rattle.std.proofs.Common.{◌≡◌, ℕ, ◌<◌, get_or}
use Rattle.std.specs.Prelude.{bit_and}
use Rattle.slot_sets.proofs.slots.Slots.meets.Given as goal

abbrev pub invariant-loop-at : goal.invariant-loop-at
invariant-loop-at g l =
    (j : ℕ) → j < l.at → bit_and (get_or l.self-inside.words j 0) (get_or l.other-inside.words j 0) ≡ 0
