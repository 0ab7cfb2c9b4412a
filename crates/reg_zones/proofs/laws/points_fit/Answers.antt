use Rattle.history_model.proofs.Placed.{rising, history-timed, within_life}
use Rattle.reg_zones.proofs.laws.points_fit.Goals as goal

pub returns-clause-within : goal.returns-clause-within
returns-clause-within c ops order y l x i = within_life ops order (history-timed ops y) l x i

pub returns-clause-rising : goal.returns-clause-rising
returns-clause-rising c order x y b = rising order x y b
