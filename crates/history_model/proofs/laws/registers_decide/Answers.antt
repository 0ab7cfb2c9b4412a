use Rattle.history_model.proofs.Locality.{each_decides}
use Rattle.history_model.proofs.laws.registers_decide.Goals as goal

pub returns : goal.returns
returns c = each_decides
