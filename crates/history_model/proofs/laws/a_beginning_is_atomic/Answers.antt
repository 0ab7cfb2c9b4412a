use Rattle.history_model.proofs.Cut.{cut-atomic}
use Rattle.history_model.proofs.laws.a_beginning_is_atomic.Goals as goal

pub returns : goal.returns
returns c = λ ops t timed calls. cut-atomic t ops timed.life calls
