use Rattle.configurations.proofs.config.is_stood_for.Given as goal

abbrev pub decreases-loop-place : goal.decreases-loop-place
decreases-loop-place g l = l.place
