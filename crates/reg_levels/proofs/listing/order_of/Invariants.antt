use Rattle.std.proofs.Common.{◌≡◌, take}
use Rattle.level_laws.specs.WriteOrders.{expanded}
use Rattle.reg_levels.specs.Decisions.{operations_of_places, writes_of}
use Rattle.reg_levels.proofs.listing.order_of.Given as goal

abbrev pub invariant-loop-number : goal.invariant-loop-number
invariant-loop-number l = operations_of_places l.ops l.places.items
    ≡ expanded l.ops (writes_of l.ops l.table.clusters.items (take l.number-index l.order))
