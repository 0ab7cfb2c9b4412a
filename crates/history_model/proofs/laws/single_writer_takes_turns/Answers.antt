use Rattle.history_model.proofs.Named.{writes-take-turns}
use Rattle.history_model.proofs.laws.single_writer_takes_turns.Goals as goal

pub returns : goal.returns
returns c = writes-take-turns
