use Rattle.std.proofs.Common.{◌≡◌, length, take}
use Rattle.causal_order.specs.Ways.{AreEdgeSteps}
use Rattle.causal_order.proofs.steps.steps_of.Given as goal

abbrev pub invariant-loop-number : goal.invariant-loop-number
invariant-loop-number l = record {
  stamps : length l.search.stamps.items ≡ length l.table.previous.items;
  steps : AreEdgeSteps l.table l.graph (take l.number-index l.cycle) l.steps.items;
}
