use Rattle.configurations.proofs.leg.run_leg.Goals as goal

pub loop-place-preserved : goal.loop-place-preserved
loop-place-preserved g c =
    record { table = c.in_ok-step_over.ensures.table; held = c.in_ok-step_over.ensures.held }
