use Rattle.program_tests.proofs.ReglevelLemmas.Worked.{stale_read-by_call, stale_read-history}
use Rattle.program_tests.proofs.reglevel.histories.stale_read.Goals as goal

pub returns-clause-history : goal.returns-clause-history
returns-clause-history c = stale_read-history

pub returns-clause-by_call : goal.returns-clause-by_call
returns-clause-by_call c = stale_read-by_call
