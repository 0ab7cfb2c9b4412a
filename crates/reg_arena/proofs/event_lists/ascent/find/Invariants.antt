-- A search stands at an ascending pair of its register, and none behind it has the value.
use Rattle.std.proofs.Common.{◌≤◌, ℕ, ℤ}
use Rattle.reg_arena.specs.Lists.Pairs.{IsAscending}
use Rattle.reg_arena.proofs.event_lists.ascent.find.Given as goal

abbrev pub invariant-loop-next : goal.invariant-loop-next
invariant-loop-next l = record {
  here : (v : ℤ) × IsAscending l.pairs l.at l.register v;
  last : (n : ℕ) → IsAscending l.pairs n l.register l.fn.value → n ≤ l.at;
}

abbrev pub decreases-loop-next : goal.decreases-loop-next
decreases-loop-next l = l.at
