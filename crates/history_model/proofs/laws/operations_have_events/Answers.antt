use Rattle.history_model.proofs.Named.{operation-has-call, operation-has-reply}
use Rattle.history_model.proofs.laws.operations_have_events.Goals as goal

pub returns-clause-call : goal.returns-clause-call
returns-clause-call c = operation-has-call

pub returns-clause-reply : goal.returns-clause-reply
returns-clause-reply c = operation-has-reply
