use Rattle.history_model.proofs.Named.{event-has-operation, event-has-no-operation, event-has-one}
use Rattle.history_model.proofs.laws.events_have_operations.Goals as goal

pub returns-clause-some : goal.returns-clause-some
returns-clause-some c = event-has-operation

pub returns-clause-none : goal.returns-clause-none
returns-clause-none c = event-has-no-operation

pub returns-clause-one : goal.returns-clause-one
returns-clause-one c = event-has-one
