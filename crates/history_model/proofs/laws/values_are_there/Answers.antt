use Rattle.history_model.proofs.Named.{operation-has-value}
use Rattle.history_model.proofs.laws.values_are_there.Goals as goal

pub returns : goal.returns
returns c = operation-has-value
