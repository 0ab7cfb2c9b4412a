use Rattle.level_laws.proofs.CausalLemmas.Registers.{causal-sequential}
use Rattle.level_laws.proofs.causal.causal_is_sequential.Goals as goal

pub returns : goal.returns
returns c ops y o r = causal-sequential ops y o r
