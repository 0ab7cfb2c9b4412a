use Rattle.slot_sets.specs.Sets.{has}
use Rattle.configurations.specs.Configs.{AreHeld}
use Rattle.configurations.proofs.leg.seat_all.Given as goal

abbrev pub invariant-loop-runner : goal.invariant-loop-runner
invariant-loop-runner g l = AreHeld (has l.table.used) l.now
