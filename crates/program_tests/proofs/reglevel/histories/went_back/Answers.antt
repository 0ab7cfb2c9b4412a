use Rattle.program_tests.proofs.ReglevelLemmas.Worked.{went_back-by_call, went_back-history}
use Rattle.program_tests.proofs.reglevel.histories.went_back.Goals as goal

pub returns-clause-history : goal.returns-clause-history
returns-clause-history c = went_back-history

pub returns-clause-by_call : goal.returns-clause-by_call
returns-clause-by_call c = went_back-by_call
