use Rattle.std.proofs.Common.{rules}
use Rattle.std.proofs.lemmas.List.Sorted.{IsNonDecreasingBy-from_sort_by_key}
use Rattle.level_report.specs.declared.sooner.LowEnd.{LowEnd}
use Rattle.level_report.proofs.sooner.sort.Goals as goal

pub returns-clause-rising : goal.returns-clause-rising
returns-clause-rising c =
    IsNonDecreasingBy-from_sort_by_key (λ (x : LowEnd). x.low) _
    c.sort_unstable_by_key.ensures.sorted (λ a r q k. search rules)
