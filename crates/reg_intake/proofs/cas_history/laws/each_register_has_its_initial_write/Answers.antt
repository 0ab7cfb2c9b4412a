use Rattle.reg_intake.proofs.CasHistoryLemmas.Initials.{named, none}
use Rattle.reg_intake.proofs.cas_history.laws.each_register_has_its_initial_write.Goals as goal

pub returns-clause-named : goal.returns-clause-named
returns-clause-named c = named

pub returns-clause-none : goal.returns-clause-none
returns-clause-none c = none
