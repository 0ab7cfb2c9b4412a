use Rattle.job_board.proofs.Events.{events_keep}
use Rattle.job_board.proofs.laws.events_keep_the_facts.Goals as goal

pub returns : goal.returns
returns c = events_keep
