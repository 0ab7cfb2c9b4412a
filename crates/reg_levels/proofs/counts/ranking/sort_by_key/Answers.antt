use Rattle.std.proofs.Common.{rules}
use Rattle.std.proofs.lemmas.List.Sorted.{IsNonDecreasingBy-from_sort_by_key}
use Rattle.reg_levels.specs.Counts.Marks.{mark_key}
use Rattle.reg_levels.proofs.counts.ranking.sort_by_key.Goals as goal

pub returns-clause-ascending : goal.returns-clause-ascending
returns-clause-ascending c =
    IsNonDecreasingBy-from_sort_by_key mark_key _ c.sort_unstable_by_key.ensures.sorted (λ a r q k.
    search rules)
