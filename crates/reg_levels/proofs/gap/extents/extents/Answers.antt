use Rattle.reg_levels.proofs.GapLemmas.Listing.{sorted-extents}
use Rattle.reg_levels.proofs.gap.extents.extents.Goals as goal

pub returns : goal.returns
returns c =
    sorted-extents c.args.ops.now c.args.table.now.clusters.items c.args.table.now.numbers.items
    c.requires.table c.in_ok-extents.extents.items c.sort.new.extents.items
    c.in_ok-extents.ensures c.sort.ensures.permutation c.sort.ensures.rising
