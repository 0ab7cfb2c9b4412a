use Rattle.std.proofs.Common.{◌<◌, length, subst, sym}
use Rattle.std.specs.List.{All}
use Rattle.level_report.proofs.order.order_lines.Goals as goal

pub order_of-requires-clause-within : goal.order_of-requires-clause-within
order_of-requires-clause-within c =
    subst (All (λ k. k < length c.args.table.now.clusters.items)) (sym c.deref.ensures.value)
    c.requires.ordered.2.within
