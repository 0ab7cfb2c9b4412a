use Rattle.std.proofs.Common.{◌≤◌}
use Rattle.register_search.proofs.distinct_values.first.up_to.Given as goal

abbrev pub invariant-loop-place : goal.invariant-loop-place
invariant-loop-place l = l.count ≤ l.place
