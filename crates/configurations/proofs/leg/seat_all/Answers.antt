use Rattle.slot_sets.specs.Sets.{has}
use Rattle.configurations.proofs.leg.seat_all.Goals as goal

pub loop-runner-preserved : goal.loop-runner-preserved
loop-runner-preserved g c =
    c.in_ok-admit.ensures.all (has c.args.table.now.used) c.seated-config.ensures c.loop-runner.invariant
