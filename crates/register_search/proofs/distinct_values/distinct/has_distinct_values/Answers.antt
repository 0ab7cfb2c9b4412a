use Rattle.register_search.proofs.DistinctValueLemmas.Verdicts.{plain-anyway}
use Rattle.register_search.proofs.distinct_values.distinct.has_distinct_values.Goals as goal

pub returns-then-are_plain-clause-plain : goal.returns-then-are_plain-clause-plain
returns-then-are_plain-clause-plain c =
    plain-anyway c.args.ops.now c.are_written_once.result (c.are_plain.ensures c.if-are_plain.true)
