use Rattle.reg_zones.proofs.Forward.{last_forward, one_conflict}
use Rattle.reg_zones.proofs.laws.last_forward_decides.Goals as goal

pub returns-clause-forward : goal.returns-clause-forward
returns-clause-forward c ops v w k lt clear = last_forward ops v w k lt clear

pub returns-clause-one : goal.returns-clause-one
returns-clause-one c ops v w v' w' y f g = one_conflict ops v w v' w' y f g
