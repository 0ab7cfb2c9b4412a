use Rattle.level_laws.proofs.Lasting as lasting
use Rattle.level_laws.proofs.laws.longer_operations_keep.Goals as goal

pub returns : goal.returns
returns c guarantee ops recorded y long one o = lasting.recorded guarantee ops recorded y.life long one o
