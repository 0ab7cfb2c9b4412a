use Rattle.std.proofs.Common.{◌≡◌, ◌++◌, map, take, drop}
use Rattle.reg_lamport.specs.Gathering.{settled}
use Rattle.reg_lamport.proofs.gathering.settle.Given as goal

abbrev pub invariant-loop-entry : goal.invariant-loop-entry
invariant-loop-entry l =
    l.entries ≡ map (settled l.time) (take l.entry-index l.initial.entries)
    ++ drop l.entry-index l.initial.entries
