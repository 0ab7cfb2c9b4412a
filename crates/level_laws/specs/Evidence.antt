-- What shows that no order of one register's operations, `ops`, gives a guarantee (cycles of clusters as in
-- Gibbons and Korach, Testing Shared Memories, 1997, section 3; the kinds are this project's profile).
use Rattle.std.specs.Prelude.{◌≡◌, List, [], ◌∷◌}
use Rattle.history_model.specs.Legal.{MustKeep}
use Rattle.history_model.specs.Operations.{value_of}
use Rattle.history_model.specs.declared.guarantee.Guarantee.{Guarantee}
use Rattle.history_model.specs.declared.operation.Operation.{Operation}
use Rattle.reg_zones.specs.Clusters.{IsInCluster, IsKept}
use Rattle.reg_zones.specs.Faults.{IsUnwritten}
use Rattle.level_laws.specs.Leads.{IsTooEarly}

-- a step from the cluster of a write to the next one: `before` is of the write's cluster, and must come
-- before `after`, which is of the next one's
pub record Link : Type 0 where
  pub write : Operation
  pub before : Operation
  pub after : Operation

-- the link leads to the cluster of w, which is another
pub record IsLink (guarantee : Guarantee) (ops : List Operation) (link : Link) (w : Operation) : Type 0 where
  pub kept : IsKept ops link.write
  pub next : IsKept ops w
  pub differ : value_of link.write ≡ value_of w → ⊥
  pub one : IsInCluster ops (value_of link.write) link.before
  pub other : IsInCluster ops (value_of w) link.after
  pub must : MustKeep guarantee link.before link.after

-- the write of the first link, or w if there is none
abbrev pub first_write : List Link → Operation → Operation
first_write [] w = w
first_write (link ∷ links) w = link.write

-- each link leads to the write of the next one, the last one to w
abbrev pub AreLinks : Guarantee → List Operation → List Link → Operation → Type 0
AreLinks guarantee ops [] w = Unit {0}
AreLinks guarantee ops (link ∷ links) w =
    IsLink guarantee ops link (first_write links w) × AreLinks guarantee ops links w

-- links from a write back to itself
abbrev pub IsCycle : Guarantee → List Operation → List Link → Type 0
IsCycle guarantee ops [] = ⊥
IsCycle guarantee ops (link ∷ links) = AreLinks guarantee ops (link ∷ links) link.write

-- a completed read whose value has no write; a completed read and the write of its value, before which it
-- must come; or a cycle of clusters, each of which must come before the next
pub data Evidence : Type 0 where
  unwritten : Operation → Evidence
  early : Operation → Operation → Evidence
  cycle : List Link → Evidence

-- the evidence rules out every order that gives the guarantee
abbrev pub IsLevelFault : Guarantee → List Operation → Evidence → Type 0
IsLevelFault guarantee ops (unwritten r) = IsUnwritten ops r
IsLevelFault guarantee ops (early r w) = IsTooEarly guarantee ops r w
IsLevelFault guarantee ops (cycle links) = IsCycle guarantee ops links
