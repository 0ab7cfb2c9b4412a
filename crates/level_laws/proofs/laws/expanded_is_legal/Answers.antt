use Rattle.level_laws.proofs.Expanded.{expansion-legal}
use Rattle.level_laws.proofs.InCalls.{expanded-legal}
use Rattle.level_laws.proofs.laws.expanded_is_legal.Goals as goal

pub returns-clause-any : goal.returns-clause-any
returns-clause-any c guarantee ops writes order y ok o e = expansion-legal guarantee ops y ok writes o order e

pub returns-clause-by_call : goal.returns-clause-by_call
returns-clause-by_call c guarantee ops writes y up ok o = expanded-legal ops up guarantee y ok writes o
