use Rattle.history_model.proofs.Locality.{restricted}
use Rattle.history_model.proofs.laws.restricted_is_legal.Goals as goal

pub returns : goal.returns
returns c = restricted
