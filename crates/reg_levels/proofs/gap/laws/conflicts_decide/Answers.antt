use Rattle.reg_levels.proofs.GapLemmas.Deciding.{conflicts-decide}
use Rattle.reg_levels.proofs.gap.laws.conflicts_decide.Goals as goal

pub returns : goal.returns
returns c ops age y = conflicts-decide ops y age
