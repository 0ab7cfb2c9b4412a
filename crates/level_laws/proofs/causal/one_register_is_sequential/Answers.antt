use Rattle.level_laws.proofs.CausalLemmas.Registers.{one-register}
use Rattle.level_laws.proofs.causal.one_register_is_sequential.Goals as goal

pub returns : goal.returns
returns c ops r y one = one-register ops r y one
