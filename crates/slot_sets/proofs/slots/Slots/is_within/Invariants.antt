use Rattle.std.proofs.Common.{◌≡◌, ℕ, ◌<◌, get_or, w64}
use Prim.Native.Nat.{◌^◌}
use Rattle.std.specs.Prelude.{bit_and}
use Rattle.std.specs.Int.{bit_not}
use Rattle.slot_sets.proofs.slots.Slots.is_within.Given as goal

abbrev pub invariant-loop-at : goal.invariant-loop-at
invariant-loop-at g l =
    ((j : ℕ) → j < l.at
    → bit_and (get_or l.self-inside.words j 0) (bit_not w64 (get_or l.other-inside.words j 0)) ≡ 0)
    × ((j : ℕ) → j < l.at → get_or l.other-inside.words j 0 < 2 ^ 64)
