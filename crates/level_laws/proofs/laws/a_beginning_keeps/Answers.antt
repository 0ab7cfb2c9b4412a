use Rattle.level_laws.proofs.Beginnings.{known-keeps}
use Rattle.level_laws.proofs.laws.a_beginning_keeps.Goals as goal

pub returns : goal.returns
returns c guarantee ops t y in_time o = known-keeps t guarantee ops y in_time o.0 o.1
