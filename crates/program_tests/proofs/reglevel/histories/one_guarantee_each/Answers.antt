use Rattle.program_tests.proofs.ReglevelLemmas.Worked.{one_guarantee_each-by_call, one_guarantee_each-history}
use Rattle.program_tests.proofs.reglevel.histories.one_guarantee_each.Goals as goal

pub returns-clause-history : goal.returns-clause-history
returns-clause-history c = one_guarantee_each-history

pub returns-clause-by_call : goal.returns-clause-by_call
returns-clause-by_call c = one_guarantee_each-by_call
