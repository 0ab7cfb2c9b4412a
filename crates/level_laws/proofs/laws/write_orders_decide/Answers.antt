use Rattle.level_laws.proofs.Decided.{decided}
use Rattle.level_laws.proofs.laws.write_orders_decide.Goals as goal

pub returns : goal.returns
returns c guarantee ops y = decided guarantee ops y
