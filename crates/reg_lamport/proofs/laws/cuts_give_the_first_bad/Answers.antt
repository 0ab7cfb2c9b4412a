use Rattle.reg_lamport.proofs.Cuts.{cuts-join, named-cuts-join, one-first-bad}
use Rattle.reg_lamport.proofs.laws.cuts_give_the_first_bad.Goals as goal

pub returns-clause-cuts : goal.returns-clause-cuts
returns-clause-cuts c = cuts-join

pub returns-clause-named : goal.returns-clause-named
returns-clause-named c = named-cuts-join

pub returns-clause-one : goal.returns-clause-one
returns-clause-one c = one-first-bad
