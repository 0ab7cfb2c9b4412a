use Rattle.program_tests.proofs.ReglevelLemmas.Worked.{came_back-by_call, came_back-history}
use Rattle.program_tests.proofs.reglevel.histories.came_back.Goals as goal

pub returns-clause-history : goal.returns-clause-history
returns-clause-history c = came_back-history

pub returns-clause-by_call : goal.returns-clause-by_call
returns-clause-by_call c = came_back-by_call
