use Rattle.history_model.proofs.Latest.{met-latest}
use Rattle.history_model.proofs.laws.reads_have_latest.Goals as goal

pub returns : goal.returns
returns c = met-latest
