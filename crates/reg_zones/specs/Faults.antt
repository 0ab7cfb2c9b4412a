-- Why a register isn't atomic: its fault, the first kind that applies (the kinds are those of Gibbons and
-- Korach, Testing Shared Memories, 1997, section 3; which one is named is this project's profile).
use Rattle.std.specs.Prelude.{◌≡◌, ◌≤◌, List}
use Rattle.history_model.specs.Lists.{In}
use Rattle.history_model.specs.Operations.{IsWrite, IsCompletedRead, IsReadOf, Precedes, value_of}
use Rattle.history_model.specs.declared.operation.Operation.{Operation}
use Rattle.history_model.specs.Naming.{name_of}
use Rattle.reg_zones.specs.Clusters.{IsConflict, IsFirstConflict, HasFirstReply, HasLastCall}
use Rattle.reg_zones.specs.declared.fault.Fault.{Fault}
use Rattle.reg_zones.specs.declared.fault.Fault.TheVariants.{Unwritten, Early, Zones}

-- a completed read whose value has no write in the register
pub record IsUnwritten (ops : List Operation) (r : Operation) : Type 0 where
  pub within : In r ops
  pub read : IsCompletedRead r
  pub unwritten : (w : Operation) → In w ops → IsWrite w → IsReadOf w r → ⊥

-- a completed read that precedes the write of its value
pub record IsEarly (ops : List Operation) (r w : Operation) : Type 0 where
  pub within : In r ops
  pub write_within : In w ops
  pub write : IsWrite w
  pub read : IsReadOf w r
  pub early : Precedes r w

-- no fault: each completed read has its write, no read is early, and no two zones conflict
pub record HasNoFault (ops : List Operation) : Type 0 where
  pub written : (r : Operation) → In r ops → IsCompletedRead r → (w : Operation) × In w ops × IsWrite w
      × IsReadOf w r
  pub in_time : (r w : Operation) → IsEarly ops r w → ⊥
  pub compatible : (v w : Operation) → IsConflict ops v w → ⊥

-- ---- the first fault of each kind, where no earlier kind applies

-- of the unwritten reads, the one called first
pub record IsFirstUnwritten (ops : List Operation) (r : Operation) : Type 0 where
  pub fault : IsUnwritten ops r
  pub first : (q : Operation) → IsUnwritten ops q → r.call ≤ q.call

-- where no read is unwritten: of the early reads, the one called first, with its write
pub record IsFirstEarly (ops : List Operation) (r w : Operation) : Type 0 where
  pub written : (q : Operation) → IsUnwritten ops q → ⊥
  pub fault : IsEarly ops r w
  pub first : (q u : Operation) → IsEarly ops q u → r.call ≤ q.call

-- where no read is unwritten or early: the first two writes whose zones conflict
pub record IsConflictFault (ops : List Operation) (v w : Operation) : Type 0 where
  pub written : (q : Operation) → IsUnwritten ops q → ⊥
  pub in_time : (q u : Operation) → IsEarly ops q u → ⊥
  pub conflict : IsFirstConflict ops v w

-- a, which replies first in v's cluster, precedes b, which is called last in w's
pub record IsWitness (ops : List Operation) (v w a b : Operation) : Type 0 where
  pub reply : HasFirstReply ops (value_of v) a
  pub call : HasLastCall ops (value_of w) b

-- ---- the fault, whose operations go by their names

-- The fault of a register's operations. Of a conflict the two writes are named, then for each of the two an
-- operation that precedes one of the other's.
abbrev pub IsFault : List Operation → Fault → Type 0
IsFault ops (Unwritten read) = (r : Operation) × IsFirstUnwritten ops r × (name_of r ≡ read)
IsFault ops (Early read write) =
    (r : Operation) × (w : Operation) × IsFirstEarly ops r w × (name_of r ≡ read) × (name_of w ≡ write)
IsFault ops (Zones writes first second) =
    (v : Operation) × (w : Operation) × (a : Operation) × (b : Operation) × (c : Operation) × (d : Operation)
    × IsConflictFault ops v w × IsWitness ops v w a b × IsWitness ops w v c d
    × (writes ≡ (name_of v, name_of w)) × (first ≡ (name_of a, name_of b)) × (second ≡ (name_of c, name_of d))
