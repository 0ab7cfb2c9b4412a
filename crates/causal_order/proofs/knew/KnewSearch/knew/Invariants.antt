use Rattle.std.proofs.Common.{◌≡◌, length}
use Rattle.causal_order.specs.Ways.{AreMet}
use Rattle.causal_order.proofs.knew.KnewSearch.knew.Given as goal

abbrev pub invariant-loop-at : goal.invariant-loop-at
invariant-loop-at l = record {
  stamps : length l.self.stamps.items ≡ length l.fn.self.stamps.items;
  met : AreMet l.table l.read l.self.met.items;
}
