use Rattle.reg_zones.proofs.Complete.{legal}
use Rattle.reg_zones.proofs.laws.canonical_is_legal.Goals as goal

pub returns : goal.returns
returns c ops order y ok k = legal ops y ok order k
