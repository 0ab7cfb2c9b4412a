use Rattle.std.proofs.Common.{◌≡◌, take}
use Rattle.std.specs.List.{filter}
use Rattle.causal_order.specs.CausalOrders.{is_initial_at}
use Rattle.causal_order.proofs.listing.initial_in.Given as goal

abbrev pub invariant-loop-place : goal.invariant-loop-place
invariant-loop-place l = l.places.items ≡ filter (is_initial_at l.ops) (take l.place-index l.order)
