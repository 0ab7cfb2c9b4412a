use Rattle.reg_levels.proofs.CountLemmas.Forbidden.{atomic-fresh, atomic-regular, atomic-upright, never-back}
use Rattle.reg_levels.proofs.CountLemmas.Forbidden.{own-kept}
use Rattle.reg_levels.proofs.counts.laws.guarantees_forbid_old_reads.Goals as goal

pub returns-clause-stale : goal.returns-clause-stale
returns-clause-stale c = atomic-fresh

pub returns-clause-inverted : goal.returns-clause-inverted
returns-clause-inverted c = atomic-upright

pub returns-clause-own : goal.returns-clause-own
returns-clause-own c = own-kept

pub returns-clause-back : goal.returns-clause-back
returns-clause-back c = never-back

pub returns-clause-regular : goal.returns-clause-regular
returns-clause-regular c = atomic-regular
