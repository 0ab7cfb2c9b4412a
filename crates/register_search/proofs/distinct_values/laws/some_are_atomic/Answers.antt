use Rattle.register_search.proofs.DistinctValueLemmas.SomeOperations.{kept-atomic}
use Rattle.register_search.proofs.distinct_values.laws.some_are_atomic.Goals as goal

pub returns : goal.returns
returns c = kept-atomic
