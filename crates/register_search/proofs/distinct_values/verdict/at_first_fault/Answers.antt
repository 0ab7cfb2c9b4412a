use Rattle.register_search.proofs.DistinctValueLemmas.Verdicts.{by-times}
use Rattle.register_search.proofs.distinct_values.verdict.at_first_fault.Goals as goal

pub returns-in-Some : goal.returns-in-Some
returns-in-Some c = by-times c.args.ops.now c.args.events.now c.refuted.result c.refuted.ensures
