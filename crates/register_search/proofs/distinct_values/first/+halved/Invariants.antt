use Rattle.std.proofs.Common.{◌-◌, length}
use Rattle.register_search.proofs.distinct_values.first.+halved.Given as goal

abbrev pub decreases-halved : goal.decreases-halved
decreases-halved l = length l.events.now - l.fine.count
