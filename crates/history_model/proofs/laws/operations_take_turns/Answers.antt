use Rattle.history_model.proofs.Recorded.{operations-take-turns}
use Rattle.history_model.proofs.laws.operations_take_turns.Goals as goal

pub returns : goal.returns
returns c = operations-take-turns
