-- Clusters of a register's operations, `ops`, that conflict if reads may be less than so many events old
-- (Gibbons and Korach, Testing Shared Memories, 1997, section 3, for none old; Golab, Li and Shah, Analyzing
-- Consistency Properties for Fun and Profit, 2011, for others).
use Rattle.std.specs.Prelude.{◌≡◌, ℕ, ◌<◌, List, length, slice_get, Some}
use Rattle.history_model.specs.Lists.{In, Before}
use Rattle.history_model.specs.declared.guarantee.Guarantee.TheVariants.{Within}
use Rattle.history_model.specs.declared.operation.Operation.{Operation}
use Rattle.level_laws.specs.Leads.{LeadsTo}
use Rattle.reg_levels.specs.Clusters.Table.{IsEnds}
use Rattle.reg_levels.specs.declared.clusters.table.ClusterEnds.{ClusterEnds}
use Rattle.reg_levels.specs.Gap.Extents.{AreRising}
use Rattle.reg_levels.specs.declared.gap.extent.Extent.{Extent}

-- each of the two leads to the other
pub record IsConflictWithin (age : ℕ) (ops : List Operation) (v w : Operation) : Type 0 where
  pub one : LeadsTo (Within age) ops v w
  pub other : LeadsTo (Within age) ops w v

-- the extent of the cluster whose number it has
pub record IsExtent (ops : List Operation) (clusters : List ClusterEnds) (x : Extent) : Type 0 where
  pub ends : ClusterEnds
  pub write : Operation
  pub there : slice_get clusters x.cluster ≡ Some ends
  pub is : IsEnds ops write ends
  pub reply : x.first_reply ≡ ends.first_reply
  pub call : x.write_call ≡ write.call
  pub last : x.last_call ≡ ends.last_call

-- the extents of the clusters below a number, in order
pub record AreExtentsBelow (ops : List Operation) (clusters : List ClusterEnds) (n : ℕ)
    (xs : List Extent) : Type 0 where
  pub each : (i : ℕ) (x : Extent) → slice_get xs i ≡ Some x → IsExtent ops clusters x × (x.cluster ≡ i)
  pub whole : (i : ℕ) → i < n → (x : Extent) × (slice_get xs i ≡ Some x)
  pub count : length xs ≡ n

-- the extents of all clusters, by first replies
pub record AreExtents (ops : List Operation) (clusters : List ClusterEnds) (xs : List Extent) : Type 0 where
  pub each : (x : Extent) → In x xs → IsExtent ops clusters x
  pub whole : (k : ℕ) (c : ClusterEnds) → slice_get clusters k ≡ Some c
      → (x : Extent) × In x xs × (x.cluster ≡ k)
  pub apart : (x y : Extent) → Before x y xs → x.cluster ≡ y.cluster → ⊥
  pub rising : AreRising xs
