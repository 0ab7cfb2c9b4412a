use Rattle.std.proofs.Common.{ℕ, ◌-◌, ◌≤◌, List, length}
use Rattle.history_model.specs.declared.operation.Operation.{Operation}
use Rattle.reg_levels.specs.declared.clusters.table.ClusterEnds.{ClusterEnds}
use Rattle.reg_levels.specs.LevelGraph.{IsClusterWrite}
use Rattle.reg_levels.specs.ReadLists.{AreReadLists}
use Rattle.reg_levels.proofs.Reading.{IsListedTo}
use Rattle.reg_levels.proofs.listing.ReadLists.push_reads.Given as goal

abbrev pub invariant-loop-place : goal.invariant-loop-place
invariant-loop-place l = record {
  within : l.place ≤ length l.self.next.items;
  listed : (ops : List Operation) (clusters : List ClusterEnds) (w : Operation)
      → AreReadLists ops clusters 0 l.self.first.items l.self.next.items → IsClusterWrite ops clusters
      l.number w
      → IsListedTo ops w l.fn.places.items l.places.items l.place;
}

abbrev pub decreases-loop-place : goal.decreases-loop-place
decreases-loop-place l = length l.self.next.items - l.place
