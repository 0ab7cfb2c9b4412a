use Rattle.reg_zones.proofs.OneFault as faults
use Rattle.reg_zones.proofs.laws.one_fault.Goals as goal

pub returns : goal.returns
returns c ops fault other y f g = faults.one_fault ops y fault other f g
