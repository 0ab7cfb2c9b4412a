use Rattle.slot_sets.specs.Sets.{has}
use Rattle.configurations.specs.Configs.{AreHeld}
use Rattle.configurations.specs.Tables.{IsTable}
use Rattle.configurations.proofs.leg.run_leg.Given as goal

abbrev pub invariant-loop-place : goal.invariant-loop-place
invariant-loop-place g l = record { table : IsTable l.table; held : AreHeld (has l.table.used) l.now }
