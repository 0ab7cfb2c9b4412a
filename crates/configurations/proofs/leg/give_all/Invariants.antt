use Rattle.configurations.specs.Tables.{IsTable}
use Rattle.configurations.proofs.leg.give_all.Given as goal

abbrev pub invariant-loop-number : goal.invariant-loop-number
invariant-loop-number g l = IsTable l.table
