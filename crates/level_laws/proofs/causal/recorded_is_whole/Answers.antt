use Rattle.level_laws.proofs.CausalLemmas.Whole.{recorded-whole}
use Rattle.level_laws.proofs.causal.recorded_is_whole.Goals as goal

pub returns : goal.returns
returns c h rec = recorded-whole h rec
