use Rattle.reg_levels.proofs.GapLemmas.Deciding.{clean-gap}
use Rattle.reg_levels.proofs.gap.laws.clean_have_a_gap.Goals as goal

pub returns : goal.returns
returns c ops y = clean-gap ops y
