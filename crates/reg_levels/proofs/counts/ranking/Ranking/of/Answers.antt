use Rattle.std.proofs.Common.{length, subst}
use Rattle.reg_levels.specs.Counts.Marks.{AreLeast}
use Rattle.reg_levels.proofs.CountLemmas.Ranked.{flat-sorted, ranked-from}
use Rattle.reg_levels.proofs.counts.ranking.Ranking.of.Goals as goal

pub returns-clause-flat : goal.returns-clause-flat
returns-clause-flat c =
    flat-sorted c.args.marks.now (length c.args.marks.now) c.in_ok-flat.flat.items
    c.sort_by_key.new.marks.items c.sort_by_key.ensures.permutation c.in_ok-flat.ensures

pub returns-clause-ranked : goal.returns-clause-ranked
returns-clause-ranked c =
    let list = c.sort_by_key.new.marks.items in
    let least = c.in_ok-least.least.items in
    ranked-from list least c.sort_by_key.ensures.ascending
    (subst (λ xs. AreLeast xs (length xs) least) c.deref.ensures.value c.in_ok-least.ensures)
