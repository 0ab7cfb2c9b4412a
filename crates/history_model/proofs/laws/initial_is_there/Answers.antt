use Rattle.history_model.proofs.Named.{initial-there}
use Rattle.history_model.proofs.laws.initial_is_there.Goals as goal

pub returns : goal.returns
returns c = initial-there
