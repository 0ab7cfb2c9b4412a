use Rattle.level_laws.proofs.CausalLemmas.FromSequential.{sequential-causal}
use Rattle.level_laws.proofs.causal.sequential_is_causal.Goals as goal

pub returns : goal.returns
returns c ops y o = sequential-causal ops y o
