-- What is found of a guarantee: why it wasn't kept, or the clusters in an order that keeps it.
use Rattle.std.specs.Global.{Global}
use Rattle.std.specs.Prelude.{◌≡◌, ◌<◌, ◌&&◌, ℕ, List, All, length, min, slice_get, Option, Some, None, Vec}
use Rattle.std.specs.Prelude.{Bool, true, false, cond}
use Rattle.history_model.specs.declared.guarantee.Guarantee.{Guarantee}
use Rattle.history_model.specs.declared.operation.Operation.{Operation}
use Rattle.level_laws.specs.Leads.{IsCleanFor}
use Rattle.level_laws.specs.WriteOrders.{IsWriteOrder}
use Rattle.reg_levels.specs.declared.clusters.table.ClusterEnds.{ClusterEnds}
use Rattle.reg_levels.specs.Decisions.{writes_of}
use Rattle.report_text.specs.declared.level.report.FaultLines.TheVariants.{Unwritten}
use Rattle.report_text.specs.declared.level.report.KeptGuarantees.{KeptGuarantees}
use Rattle.report_text.specs.declared.level.report.LevelName.{LevelName}
use Rattle.level_report.specs.Guarantees.{IsGuaranteeOf, IsVerdict}
use Rattle.level_report.specs.declared.guarantees.Found.{Found}
use Rattle.level_report.specs.declared.guarantees.Ordered.{Ordered}
use Rattle.level_report.specs.declared.sooner.LowEnd.{LowEnd}

-- each number is that of a cluster, and the writes of the clusters stand in an order that respects all that
-- must come first
pub record KeepsOrder (g : Guarantee) (ops : List Operation) (clusters : List ClusterEnds)
    (order : List ℕ) : Type 0 where
  pub within : All (λ k. k < length clusters) order
  pub clean : IsCleanFor g ops
  pub writes : IsWriteOrder g ops (writes_of ops clusters order)

-- the low ends of the zones of the first clusters, by their numbers
pub record AreFirstLowEnds (clusters : List ClusterEnds) (n : ℕ) (ends : List LowEnd) : Type 0 where
  pub count : length ends ≡ n
  pub each : (k : ℕ) (x : LowEnd) (c : ClusterEnds) → slice_get ends k ≡ Some x → slice_get clusters k ≡
      Some c
      → (x.cluster ≡ k) × (x.low ≡ min c.first_reply c.last_call)

abbrev pub AreLowEnds : List ClusterEnds → List LowEnd → Type 0
AreLowEnds clusters ends = AreFirstLowEnds clusters (length clusters) ends

-- the clusters in an order, exactly if the guarantee was kept
abbrev pub AreClustersFor : Guarantee → List Operation → List ClusterEnds → Bool → Option (Vec ℕ Global) →
    Type 0
AreClustersFor g ops clusters true found =
    (order : Vec ℕ Global) × (found ≡ Some order) × KeepsOrder g ops clusters order.items
AreClustersFor g ops clusters false found = found ≡ None

pub record IsFound (g : Guarantee) (ops : List Operation) (clusters : List ClusterEnds)
    (found : Found) : Type 0 where
  pub verdict : IsVerdict g ops found.kept found.fault
  pub order : AreClustersFor g ops clusters found.kept found.clusters

-- all guarantees, of a register that kept the session
abbrev pub every_guarantee : KeptGuarantees
every_guarantee = record {
  session = true;
  sequential = true;
  own_writes = None;
  monotonic = None;
  session_fault = None;
  own_writes_fault = None;
  monotonic_fault = None;
  sequential_fault = None;
}

-- those of a register that didn't, by what is found of each
abbrev pub guarantees_found : (whole own monotonic sequential : Found) → KeptGuarantees
guarantees_found whole own monotonic sequential = record {
  session = false;
  sequential = sequential.kept;
  own_writes = Some own.kept;
  monotonic = Some monotonic.kept;
  session_fault = cond (own.kept && monotonic.kept) whole.fault None;
  own_writes_fault = own.fault;
  monotonic_fault = monotonic.fault;
  sequential_fault = sequential.fault;
}

-- those of a register with a read of a value that nobody wrote, at this line: none
abbrev pub no_guarantee : ℕ → KeptGuarantees
no_guarantee line = record {
  session = false;
  sequential = false;
  own_writes = Some false;
  monotonic = Some false;
  session_fault = None;
  own_writes_fault = Some (Unwritten line);
  monotonic_fault = Some (Unwritten line);
  sequential_fault = Some (Unwritten line);
}

abbrev pub ordered_or : LevelName → Option (Vec ℕ Global) → Option Ordered → Option Ordered
ordered_or name None next = next
ordered_or name (Some order) next = Some (record { level = name; clusters = order })

-- the clusters in an order that keeps the level
abbrev pub IsOrderedBy : List Operation → List ClusterEnds → Ordered → Type 0
IsOrderedBy ops clusters o =
    (g : Guarantee) × IsGuaranteeOf o.level g × KeepsOrder g ops clusters o.clusters.items

-- the clusters in an order that keeps this level
abbrev pub IsOrdered : List Operation → List ClusterEnds → Option LevelName → Option Ordered → Type 0
IsOrdered ops clusters None found = found ≡ None
IsOrdered ops clusters (Some name) found =
    (o : Ordered) × (found ≡ Some o) × (o.level ≡ name)
    × ((g : Guarantee) × IsGuaranteeOf name g × KeepsOrder g ops clusters o.clusters.items)
