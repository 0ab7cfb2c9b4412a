use Rattle.level_laws.proofs.Refuted.{refuted}
use Rattle.level_laws.proofs.laws.level_fault_means_no_order.Goals as goal

pub returns : goal.returns
returns c guarantee ops evidence y f o = refuted guarantee ops evidence y f o
