use Rattle.history_model.proofs.InTurn.{in-turn}
use Rattle.history_model.proofs.laws.met_in_turn.Goals as goal

pub returns : goal.returns
returns c = in-turn
