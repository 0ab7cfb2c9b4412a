use Rattle.register_search.proofs.DistinctValueLemmas.SomeOperations.{known-kept}
use Rattle.register_search.proofs.distinct_values.laws.known_of_some.Goals as goal

pub returns : goal.returns
returns c = known-kept
