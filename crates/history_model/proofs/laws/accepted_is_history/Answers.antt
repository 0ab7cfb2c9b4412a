use Rattle.history_model.proofs.Recorded.{accepted-history}
use Rattle.history_model.proofs.laws.accepted_is_history.Goals as goal

pub returns : goal.returns
returns c = accepted-history
