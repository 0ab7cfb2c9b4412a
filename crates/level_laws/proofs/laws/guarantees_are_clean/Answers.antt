use Rattle.level_laws.proofs.Refuted.{clean}
use Rattle.level_laws.proofs.Weaker.{clean-for, none-precedes}
use Rattle.level_laws.proofs.laws.guarantees_are_clean.Goals as goal

pub returns-clause-gives : goal.returns-clause-gives
returns-clause-gives c guarantee ops y o = clean guarantee ops o.0 y o.1

pub returns-clause-each : goal.returns-clause-each
returns-clause-each c guarantee ops u e = clean-for ops guarantee u e

pub returns-clause-in_time : goal.returns-clause-in_time
returns-clause-in_time c guarantee ops n k r w e = none-precedes ops guarantee n k r w e
