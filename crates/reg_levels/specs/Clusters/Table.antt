-- The table of the clusters of a register's operations, `ops` (clusters as in Gibbons and Korach, Testing
-- Shared Memories, SIAM Journal on Computing, 1997, section 3).
use Rattle.std.specs.Prelude.{◌≡◌, ℕ, ◌<◌, List, length, slice_get, Option, Some, None, option_and_then}
use Rattle.history_model.specs.Operations.{value_of}
use Rattle.history_model.specs.declared.operation.Operation.{Operation}
use Rattle.reg_zones.specs.Clusters.{IsKept, IsInCluster, HasFirstReply, HasLastCall, first_reply, last_call}
use Rattle.reg_zones.specs.Faults.{IsUnwritten}
use Rattle.reg_levels.specs.Clusters.Places.{IsAt}
use Rattle.reg_levels.specs.declared.clusters.table.ClusterEnds.{ClusterEnds}

-- the ends of the cluster of the kept write w: its first reply and its last call, with the places of the
-- operations that have them, and of w
pub record IsEnds (ops : List Operation) (w : Operation) (c : ClusterEnds) : Type 0 where
  pub at_write : IsAt ops c.write w
  pub kept : IsKept ops w
  pub at_first : (a : Operation) × IsAt ops c.first a × HasFirstReply ops (value_of w) a
  pub at_last : (a : Operation) × IsAt ops c.last a × HasLastCall ops (value_of w) a
  pub reply_is : c.first_reply ≡ first_reply ops (value_of w)
  pub call_is : c.last_call ≡ last_call ops (value_of w)

-- The clusters of operations of which no read is unwritten, by the calls of their writes; and for each
-- operation the number of its cluster, if it is in one. A pending read is in none, nor is a pending write
-- that
-- no completed read has.
pub record IsClusterTable (ops : List Operation) (clusters : List ClusterEnds)
    (numbers : List (Option ℕ)) : Type 0 where
  pub written : (r : Operation) → IsUnwritten ops r → ⊥
  pub each : (k : ℕ) (c : ClusterEnds) → slice_get clusters k ≡ Some c → (w : Operation) × IsEnds ops w c
  pub whole : (w : Operation) → IsKept ops w
      → (k : ℕ) × (c : ClusterEnds) × (slice_get clusters k ≡ Some c) × IsEnds ops w c
  pub ascending : (j k : ℕ) (c d : ClusterEnds) → j < k → slice_get clusters j ≡ Some c
      → slice_get clusters k ≡ Some d → c.write < d.write
  pub places : length numbers ≡ length ops
  pub member : (p k : ℕ) (a : Operation) → IsAt ops p a → slice_get numbers p ≡ Some (Some k)
      → (c : ClusterEnds) × (w : Operation) × (slice_get clusters k ≡ Some c) × IsEnds ops w c
      × IsInCluster ops (value_of w) a
  pub other : (p : ℕ) (a : Operation) → IsAt ops p a → slice_get numbers p ≡ Some None → (w : Operation)
      → IsKept ops w → IsInCluster ops (value_of w) a → ⊥

-- the ends of the cluster of the operation at a place, if it is in one
abbrev pub ends_of : List ClusterEnds → List (Option ℕ) → ℕ → Option ClusterEnds
ends_of clusters numbers p =
    option_and_then (λ number. option_and_then (slice_get clusters) number) (slice_get numbers p)
