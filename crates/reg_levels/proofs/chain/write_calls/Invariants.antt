use Rattle.std.proofs.Common.{◌≡◌, ◌<◌, ℕ, Some, length, slice_get}
use Rattle.history_model.specs.declared.operation.Operation.{Operation}
use Rattle.reg_levels.specs.Clusters.Places.{IsAt}
use Rattle.reg_levels.specs.declared.clusters.table.ClusterEnds.{ClusterEnds}
use Rattle.reg_levels.proofs.chain.write_calls.Given as goal

abbrev pub invariant-loop-cluster : goal.invariant-loop-cluster
invariant-loop-cluster l = record {
  count : length l.calls.items ≡ l.cluster-index;
  each : (k : ℕ) (c : ClusterEnds) (w : Operation) → k < l.cluster-index
      → slice_get l.table.clusters.items k ≡ Some c → IsAt l.ops c.write w → slice_get l.calls.items k ≡
      Some w.call;
}
