use Rattle.program_tests.proofs.ReglevelLemmas.Worked.{unwritten-by_call, unwritten-history}
use Rattle.program_tests.proofs.reglevel.histories.unwritten.Goals as goal

pub returns-clause-history : goal.returns-clause-history
returns-clause-history c = unwritten-history

pub returns-clause-by_call : goal.returns-clause-by_call
returns-clause-by_call c = unwritten-by_call
