use Rattle.history_model.proofs.Named.{has-oper, one-named}
use Rattle.history_model.proofs.laws.names_are_unique.Goals as goal

pub returns-clause-named : goal.returns-clause-named
returns-clause-named c h rec = has-oper h

pub returns-clause-one : goal.returns-clause-one
returns-clause-one c h rec = one-named h
