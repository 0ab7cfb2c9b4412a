use Rattle.causal_order.specs.CausalOrders.{AreReads}
use Rattle.causal_order.proofs.listing.reads.Given as goal

abbrev pub invariant-loop-place : goal.invariant-loop-place
invariant-loop-place l = AreReads l.table l.place l.read.items
