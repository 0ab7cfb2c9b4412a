use Rattle.history_model.proofs.Named.{operation-has-register}
use Rattle.history_model.proofs.laws.registers_are_numbered.Goals as goal

pub returns : goal.returns
returns c = operation-has-register
