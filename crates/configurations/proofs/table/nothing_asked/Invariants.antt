use Rattle.std.proofs.Common.{◌≡◌, ℕ, [], false, get_or}
use Rattle.slot_sets.specs.Sets.{has}
use Rattle.configurations.proofs.table.nothing_asked.Given as goal

abbrev pub invariant-loop : goal.invariant-loop
invariant-loop g l = (v q : ℕ) → has (get_or l.asks.items v []) q ≡ false
