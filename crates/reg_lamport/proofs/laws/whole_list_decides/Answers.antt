use Rattle.reg_lamport.proofs.Cuts.{list-keeps, list-breaks}
use Rattle.reg_lamport.proofs.laws.whole_list_decides.Goals as goal

pub returns-clause-none : goal.returns-clause-none
returns-clause-none c = list-keeps

pub returns-clause-some : goal.returns-clause-some
returns-clause-some c = list-breaks
