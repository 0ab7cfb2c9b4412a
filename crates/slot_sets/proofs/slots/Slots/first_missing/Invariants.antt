use Rattle.std.proofs.Common.{◌≡◌, ◌-◌, ℕ, ◌<◌, get_or}
use Prim.Native.Nat.{◌^◌}
use Rattle.slot_sets.proofs.slots.Slots.first_missing.Given as goal

abbrev pub invariant-loop-at : goal.invariant-loop-at
invariant-loop-at g l = (j : ℕ) → j < l.at → get_or l.self-inside.words j 0 ≡ 2 ^ 64 - 1
