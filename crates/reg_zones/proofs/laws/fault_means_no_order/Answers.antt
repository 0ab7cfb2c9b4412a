use Rattle.reg_zones.proofs.Sound.{sound}
use Rattle.reg_zones.proofs.OneFault.{fault_is_none}
use Rattle.reg_zones.proofs.laws.fault_means_no_order.Goals as goal

pub returns : goal.returns
returns c ops order fault y f l = fault_is_none ops fault f (sound ops order y l)
