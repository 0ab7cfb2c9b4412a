use Rattle.reg_intake.proofs.CasHistoryLemmas.Timed.{any-calls-timed}
use Rattle.reg_intake.proofs.cas_history.laws.calls_are_timed.Goals as goal

pub returns : goal.returns
returns c = any-calls-timed
