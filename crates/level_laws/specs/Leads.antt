-- What a guarantee asks of the kept writes of one register's operations, `ops`: which must come before which
-- (between clusters, as Gibbons and Korach compare them, Testing Shared Memories, 1997, section 3; for
-- guarantees other than atomic this project's own).
use Rattle.std.specs.Prelude.{◌≡◌, List}
use Rattle.history_model.specs.Lists.{In}
use Rattle.history_model.specs.Legal.{MustKeep}
use Rattle.history_model.specs.Operations.{IsReadOf, IsWrite, value_of}
use Rattle.history_model.specs.declared.guarantee.Guarantee.{Guarantee}
use Rattle.history_model.specs.declared.operation.Operation.{Operation}
use Rattle.reg_zones.specs.Clusters.{IsInCluster, IsKept}
use Rattle.reg_zones.specs.Faults.{IsUnwritten}

-- v leads to w: the two are of different clusters, and some operation of v's must come before one of w's
pub record LeadsTo (guarantee : Guarantee) (ops : List Operation) (v w : Operation) : Type 0 where
  pub left : IsKept ops v
  pub right : IsKept ops w
  pub differ : value_of v ≡ value_of w → ⊥
  pub before : Operation
  pub after : Operation
  pub one : IsInCluster ops (value_of v) before
  pub other : IsInCluster ops (value_of w) after
  pub must : MustKeep guarantee before after

-- a completed read that must come before the write of its value
pub record IsTooEarly (guarantee : Guarantee) (ops : List Operation) (r w : Operation) : Type 0 where
  pub within : In r ops
  pub write_within : In w ops
  pub write : IsWrite w
  pub read : IsReadOf w r
  pub must : MustKeep guarantee r w

-- no single read rules out every order: none is unwritten, and none must come before the write of its value
pub record IsCleanFor (guarantee : Guarantee) (ops : List Operation) : Type 0 where
  pub written : (r : Operation) → IsUnwritten ops r → ⊥
  pub in_time : (r w : Operation) → IsTooEarly guarantee ops r w → ⊥
