use Rattle.reg_zones.proofs.Initial.{initial_sooner, initial_first}
use Rattle.reg_zones.proofs.laws.initial_write_is_first.Goals as goal

pub returns-clause-canonical : goal.returns-clause-canonical
returns-clause-canonical c ops y i j z a l ne = initial_sooner ops y i j z a l ne

pub returns-clause-legal : goal.returns-clause-legal
returns-clause-legal c ops order y l i j z a k ne = initial_first ops y i j z order l a k ne
