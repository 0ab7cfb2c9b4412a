use Rattle.std.proofs.Common.{◌≡◌, ◌++◌, drop}
use Rattle.history_model.specs.Placed.{placed_from, placed}
use Rattle.register_search.specs.Timeline.{operations_at}
use Rattle.register_search.proofs.Checking.{points, AreUnreplied}
use Rattle.register_search.proofs.check.points_of.Given as goal

abbrev pub invariant-loop-number : goal.invariant-loop-number
invariant-loop-number l = record {
  is : points (placed (operations_at l.ops l.order)) ≡ l.points.items
      ++ points (placed_from l.last (operations_at l.ops (drop l.number-index l.order)));
  unreplied : AreUnreplied (placed_from l.last (operations_at l.ops (drop l.number-index l.order)))
      → AreUnreplied (placed (operations_at l.ops l.order));
}
