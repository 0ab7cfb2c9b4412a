-- What is decided of a guarantee over a register's operations, `ops`: the order of the clusters, or the
-- fault.
use Rattle.std.specs.Prelude.{◌<◌, ℕ, List, [], ◌∷◌, Option, All, length, slice_get, option_and_then}
use Rattle.std.specs.List.{filter_map}
use Rattle.history_model.specs.declared.guarantee.Guarantee.{Guarantee}
use Rattle.history_model.specs.declared.operation.Operation.{Operation}
use Rattle.level_laws.specs.Evidence.{Evidence, IsLevelFault, Link}
use Rattle.level_laws.specs.Evidence.Evidence.{unwritten, early, cycle}
use Rattle.level_laws.specs.Leads.{IsCleanFor}
use Rattle.level_laws.specs.WriteOrders.{IsWriteOrder}
use Rattle.reg_levels.specs.Clusters.Places.{IsAt}
use Rattle.reg_levels.specs.declared.clusters.table.ClusterEnds.{ClusterEnds}
use Rattle.reg_levels.specs.declared.decision.Decision.{Decision}
use Rattle.reg_levels.specs.declared.decision.Decision.TheVariants.{Kept, Broken}
use Rattle.reg_levels.specs.declared.decision.LevelFault.{LevelFault}
use Rattle.reg_levels.specs.declared.decision.LevelFault.TheVariants.{Unwritten, Early, Cycle}
use Rattle.reg_levels.specs.declared.decision.Step.{Step}

-- the write of the cluster of a number
abbrev pub write_of_cluster : List Operation → List ClusterEnds → ℕ → Option Operation
write_of_cluster ops clusters k = option_and_then (λ (c : ClusterEnds). slice_get ops c.write) (slice_get
    clusters k)

-- the writes of the clusters of these numbers
abbrev pub writes_of : List Operation → List ClusterEnds → List ℕ → List Operation
writes_of ops clusters order = filter_map (write_of_cluster ops clusters) order

-- the operations at the places of a step are those of the link
pub record IsStepOf (ops : List Operation) (step : Step) (link : Link) : Type 0 where
  pub write : IsAt ops step.write link.write
  pub before : IsAt ops step.before link.before
  pub after : IsAt ops step.after link.after

abbrev pub AreStepsOf : List Operation → List Step → List Link → Type 0
AreStepsOf ops [] [] = Unit {0}
AreStepsOf ops [] (link ∷ links) = ⊥
AreStepsOf ops (step ∷ steps) [] = ⊥
AreStepsOf ops (step ∷ steps) (link ∷ links) = IsStepOf ops step link × AreStepsOf ops steps links

-- the fault names the operations of the evidence by their places
abbrev pub IsFaultOf : List Operation → LevelFault → Evidence → Type 0
IsFaultOf ops (Unwritten read) (unwritten r) = IsAt ops read r
IsFaultOf ops (Unwritten read) (early r w) = ⊥
IsFaultOf ops (Unwritten read) (cycle links) = ⊥
IsFaultOf ops (Early read write) (unwritten r) = ⊥
IsFaultOf ops (Early read write) (early r w) = IsAt ops read r × IsAt ops write w
IsFaultOf ops (Early read write) (cycle links) = ⊥
IsFaultOf ops (Cycle steps) (unwritten r) = ⊥
IsFaultOf ops (Cycle steps) (early r w) = ⊥
IsFaultOf ops (Cycle steps) (cycle links) = AreStepsOf ops steps.items links

-- Each number is that of a cluster, no single read rules the guarantee out, and the writes of the clusters in
-- this order respect all that must come first; or the fault is evidence that no order gives it.
abbrev pub IsDecision : Guarantee → List Operation → List ClusterEnds → Decision → Type 0
IsDecision guarantee ops clusters (Kept order) =
    All (λ k. k < length clusters) order.items × IsCleanFor guarantee ops
    × IsWriteOrder guarantee ops (writes_of ops clusters order.items)
IsDecision guarantee ops clusters (Broken fault) =
    (evidence : Evidence) × IsFaultOf ops fault evidence × IsLevelFault guarantee ops evidence

-- the operations at these places
abbrev pub operations_of_places : List Operation → List ℕ → List Operation
operations_of_places ops places = filter_map (slice_get ops) places
