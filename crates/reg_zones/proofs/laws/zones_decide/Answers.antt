use Rattle.reg_zones.proofs.Exists.{decides}
use Rattle.reg_zones.proofs.laws.zones_decide.Goals as goal

pub returns : goal.returns
returns c ops y = decides ops y
