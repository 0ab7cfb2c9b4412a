use Rattle.level_laws.proofs.CausalLemmas.Refuted.{refuted}
use Rattle.level_laws.proofs.causal.causal_fault_means_no_order.Goals as goal

pub returns : goal.returns
returns c ops fault y f o = refuted ops fault y f o
