use Rattle.std.proofs.Common.{◌≡◌, ◌++◌, drop}
use Rattle.reg_zones.specs.Entries.{entries_placed}
use Rattle.reg_zones.proofs.canonical.placed.Given as goal

abbrev pub invariant-loop-entry : goal.invariant-loop-entry
invariant-loop-entry l =
    l.answer.items ++ entries_placed l.point (drop l.entry-index l.entries) ≡ entries_placed 0 l.entries
