use Rattle.std.proofs.Common.{◌≡◌, ◌++◌, take}
use Rattle.std.specs.List.{filter}
use Rattle.causal_order.specs.CausalOrders.{is_listed_at}
use Rattle.causal_order.proofs.listing.push_listed.Given as goal

abbrev pub invariant-loop-place : goal.invariant-loop-place
invariant-loop-place l = l.places.items
    ≡ l.fn.places.items ++ filter (is_listed_at l.ops l.read) (take l.place-index l.order)
