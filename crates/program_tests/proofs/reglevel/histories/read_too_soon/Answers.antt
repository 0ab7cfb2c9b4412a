use Rattle.program_tests.proofs.ReglevelLemmas.Worked.{read_too_soon-by_call, read_too_soon-history}
use Rattle.program_tests.proofs.reglevel.histories.read_too_soon.Goals as goal

pub returns-clause-history : goal.returns-clause-history
returns-clause-history c = read_too_soon-history

pub returns-clause-by_call : goal.returns-clause-by_call
returns-clause-by_call c = read_too_soon-by_call
