use Rattle.std.proofs.Common.{◌≡◌, ℕ, ◌<◌, Some, length, slice_get}
use Rattle.causal_order.specs.SessionClocks.Clocks.{Asks}
use Rattle.causal_order.specs.declared.session_clocks.table.SessionTable.{SessionTable}
use Rattle.causal_order.specs.Ways.{AreMet}
use Rattle.causal_order.specs.declared.knew.MetPlace.{MetPlace}
use Rattle.causal_order.proofs.Meeting.{IsTrail}
use Rattle.causal_order.proofs.knew.KnewSearch.way_back.Given as goal

abbrev pub invariant-loop-next : goal.invariant-loop-next
invariant-loop-next l = record {
  within : l.next < length l.self.met.items;
  trail : (table : SessionTable) (read : ℕ) (m : MetPlace) → AreMet table read l.self.met.items
      → slice_get l.self.met.items l.at ≡ Some m → Asks table m.place l.write
      → IsTrail table l.self.met.items l.write l.next l.knew.items;
}

abbrev pub decreases-loop-next : goal.decreases-loop-next
decreases-loop-next l = l.next
