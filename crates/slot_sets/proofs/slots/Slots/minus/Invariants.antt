use Rattle.std.proofs.Common.{◌≡◌, ℕ, ◌<◌, ◌≤◌, length, get_or, w64}
use Prim.Native.Nat.{◌^◌}
use Rattle.std.specs.Prelude.{bit_and}
use Rattle.std.specs.Int.{bit_not}
use Rattle.slot_sets.proofs.slots.Slots.minus.Given as goal

abbrev pub invariant-loop-at : goal.invariant-loop-at
invariant-loop-at g l =
    (length l.words ≡ g.row.W)
    × ((j : ℕ) → j < l.at
    → get_or l.words j 0 ≡ bit_and (get_or l.initial.words j 0)
    (bit_not w64 (get_or l.other-inside.words j 0)))
    × ((j : ℕ) → l.at ≤ j → get_or l.words j 0 ≡ get_or l.initial.words j 0)
    × ((j : ℕ) → j < l.at → get_or l.other-inside.words j 0 < 2 ^ 64)
