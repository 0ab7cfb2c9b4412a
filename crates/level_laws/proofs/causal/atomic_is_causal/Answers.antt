use Rattle.level_laws.proofs.CausalLemmas.FromSequential.{atomic-causal}
use Rattle.level_laws.proofs.causal.atomic_is_causal.Goals as goal

pub returns : goal.returns
returns c ops y o = atomic-causal ops y o
