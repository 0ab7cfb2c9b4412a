-- Zones as the code has them, and what is found at each event of a register.
use Rattle.std.specs.Prelude.{◌≡◌, ℕ, ◌+◌, ◌<◌, ◌≤◌, ◌⊎◌, List, Option, Some, None}
use Rattle.history_text.specs.declared.event.Val.{Val}
use Rattle.history_model.specs.declared.ids.EvId.{EvId}
use Rattle.history_model.specs.declared.ids.Oper.{Oper}
use Rattle.history_model.specs.declared.ids.Oper.TheVariants.{Initial, Called}
use Rattle.history_model.specs.declared.op.Op.{Op}
use Rattle.history_model.specs.Lists.{In}
use Rattle.history_model.specs.History.{History}
use Rattle.history_model.specs.Operations.{IsWrite, IsCompleted, IsCompletedRead, value_of}
use Rattle.history_model.specs.declared.operation.Operation.{Operation}
use Rattle.history_model.specs.Operations.{IsReadOf, of_register, operations}
use Rattle.history_model.specs.Walking.{by_value, key_at}
use Rattle.history_model.specs.Naming.{IsNamed, IsEventOf, name_of, op_shown}
use Rattle.history_model.specs.OfValue.{IsMember, IsFirstReply, IsLastCall}
use Rattle.reg_zones.specs.Clusters.{IsKept, IsConflict, IsFirstConflict, IsClearBelow, IsForward}
use Rattle.reg_zones.specs.Clusters.{IsLastForward, first_reply, last_call, low_end}
use Rattle.reg_zones.specs.Faults.{IsUnwritten, IsEarly}
use Rattle.reg_zones.specs.declared.zone.Zone.{Zone}
use Rattle.reg_zones.specs.declared.zone.Cluster.{Cluster}
use Rattle.reg_zones.specs.declared.pass.Compared.{Compared}
use Rattle.reg_zones.specs.declared.pass.Compared.TheVariants.{Clear, Conflict}
use Rattle.reg_zones.specs.declared.pass.LaterFaults.{LaterFaults}
use Rattle.reg_zones.specs.declared.reads.Read.{Read}
use Rattle.reg_zones.specs.declared.register.Met.{Met}
use Rattle.reg_zones.specs.declared.register.Met.TheVariants.{Call, Reply, Nothing}

-- the event at place i belongs to the operation o of register r
pub record IsBelonging (h : History) (r i : ℕ) (o : Operation) (op : Op) : Type 0 where
  pub one : In o (of_register r (operations h))
  pub event : IsEventOf i o
  pub shown : op ≡ op_shown o

-- what the event at place i is to register r: the call of an operation, which has this
-- name; the reply to one; or no event of any
abbrev pub IsMetAt : History → ℕ → ℕ → Met → Type 0
IsMetAt h r i (Call oper op) =
    (o : Operation) × IsBelonging h r i o op × (oper ≡ name_of o) × (o.call ≡ i + 2)
IsMetAt h r i Reply =
    (o : Operation) × In o (of_register r (operations h)) × IsCompleted o × (o.reply ≡ i + 2)
IsMetAt h r i Nothing = (o : Operation) → In o (of_register r (operations h)) → IsEventOf i o → ⊥

-- when the operation of this name was called; the event at place i has time i + 2
abbrev pub call_named : Oper → ℕ
call_named (Initial r) = 0
call_named (Called i) = i.0 + 2

-- ---- zones

-- the zone of the cluster of a value
pub record IsZone (ops : List Operation) (v : Option Val) (zone : Zone) : Type 0 where
  pub reply : zone.f ≡ first_reply ops v
  pub call : zone.s ≡ last_call ops v

-- the zone of the cluster of a value, if it has a completed operation
abbrev pub IsZoneFound : History → ℕ → Val → Option Zone → Type 0
IsZoneFound h r v None = (o : Operation) → IsMember h r v o → IsCompleted o → ⊥
IsZoneFound h r v (Some zone) = IsFirstReply h r v (Some zone.f) × IsLastCall h r v (Some zone.s)

-- the name is of a kept write
abbrev pub IsKeptWrite : History → Oper → Type 0
IsKeptWrite h name = (w : Operation) × IsNamed h name w × IsKept (of_register w.register (operations h)) w

-- an event of register r that has the value of the operation to which the event at place i belongs, if it
-- belongs to one that has a value; a pending read has none
abbrev pub IsValueOf : History → ℕ → ℕ → Option EvId → Type 0
IsValueOf h r i None =
    (o : Operation) → In o (of_register r (operations h)) → IsEventOf i o → IsWrite o ⊎ IsCompleted o → ⊥
IsValueOf h r i (Some id) =
    (o : Operation) × In o (of_register r (operations h)) × IsEventOf i o
    × ((v : Val) × (value_of o ≡ Some v) × (key_at by_value h.events id.0 ≡ Some (r, v))
    × (IsWrite o ⊎ IsCompleted o))

-- ---- reads without a write, and early reads

-- each completed read has its write
abbrev pub AreWritten : List Operation → Type 0
AreWritten ops =
    (r : Operation) → In r ops → IsCompletedRead r → (w : Operation) × In w ops × IsWrite w × IsReadOf w r

-- no read is early
abbrev pub AreInTime : List Operation → Type 0
AreInTime ops = (r w : Operation) → IsEarly ops r w → ⊥

-- the read is one of the operations, completed, with its value and its reply
abbrev pub IsReadOfRegister : List Operation → Read → Type 0
IsReadOfRegister ops read =
    (r : Operation) × In r ops × IsCompletedRead r × (value_of r ≡ Some read.value) × (r.reply ≡ read.reply)

-- the completed read that is called at time n, if there is one
abbrev pub IsReadCalledAt : List Operation → ℕ → Option Read → Type 0
IsReadCalledAt ops n None = (r : Operation) → In r ops → IsCompletedRead r → r.call ≡ n → ⊥
IsReadCalledAt ops n (Some read) =
    (r : Operation) × In r ops × IsCompletedRead r × (r.call ≡ n) × (name_of r ≡ read.oper)
    × (value_of r ≡ Some read.value) × (r.reply ≡ read.reply)

-- the completed read that is called at time n, if it has no write
abbrev pub IsUnwrittenAt : List Operation → ℕ → Option Oper → Type 0
IsUnwrittenAt ops n None =
    (r : Operation) → In r ops → IsCompletedRead r → r.call ≡ n → (w : Operation) × In w ops × IsWrite w
    × IsReadOf w r
IsUnwrittenAt ops n (Some read) = (r : Operation) × IsUnwritten ops r × (r.call ≡ n) × (name_of r ≡ read)

-- the read that is called at time n, with its write, if it is early
abbrev pub IsEarlyAt : List Operation → ℕ → Option (Oper × Oper) → Type 0
IsEarlyAt ops n None = (r w : Operation) → IsEarly ops r w → r.call ≡ n → ⊥
IsEarlyAt ops n (Some pair) =
    (r : Operation) × (w : Operation) × IsEarly ops r w × (r.call ≡ n) × (name_of r ≡ pair.0)
    × (name_of w ≡ pair.1)

-- ---- conflicts

-- the cluster of the kept write w, as the pass has it
pub record IsClusterOf (ops : List Operation) (w : Operation) (cluster : Cluster) : Type 0 where
  pub kept : IsKept ops w
  pub write : cluster.write ≡ name_of w
  pub zone : IsZone ops (value_of w) cluster.zone

-- the cluster whose low end is at time n, if there is one
abbrev pub IsLowEndAt : List Operation → ℕ → Option Cluster → Type 0
IsLowEndAt ops n None = (w : Operation) → IsKept ops w → low_end ops (value_of w) ≡ n → ⊥
IsLowEndAt ops n (Some cluster) = (w : Operation) × IsClusterOf ops w cluster × (low_end ops (value_of w) ≡ n)

-- the last forward cluster whose low end is before time n, if there is one
abbrev pub IsLastMet : List Operation → ℕ → Option Cluster → Type 0
IsLastMet ops n None = (w : Operation) → IsKept ops w → IsForward ops (value_of w)
    → low_end ops (value_of w) < n → ⊥
IsLastMet ops n (Some cluster) = (w : Operation) × IsClusterOf ops w cluster × IsLastForward ops w n

-- what a pass that has met each low end before time n knows: no conflict, and the last forward cluster
pub record AreClear (ops : List Operation) (n : ℕ) (cluster : Option Cluster) : Type 0 where
  pub clear : IsClearBelow ops n
  pub last : IsLastMet ops n cluster

-- each zone's first reply comes before the other's last call
abbrev pub ZonesConflict : Zone → Zone → Type 0
ZonesConflict y z = (y.f < z.s) × (z.f < y.s)

-- the last forward cluster met, if its zone conflicts with this one
abbrev pub IsConflictWith : Option Cluster → Cluster → Option Cluster → Type 0
IsConflictWith last cluster None = (c : Cluster) → last ≡ Some c → ZonesConflict c.zone cluster.zone → ⊥
IsConflictWith last cluster (Some c) = (last ≡ Some c) × ZonesConflict c.zone cluster.zone

-- the first two clusters that conflict
abbrev pub AreFirstConflict : List Operation → Cluster → Cluster → Type 0
AreFirstConflict ops first second =
    (v : Operation) × (w : Operation) × IsFirstConflict ops v w × IsClusterOf ops v first
    × IsClusterOf ops w second

-- what a pass that has met each low end before time n knows of the zones: no conflict and the
-- last forward cluster, or the first conflict
abbrev pub AreCompared : List Operation → ℕ → Compared → Type 0
AreCompared ops n (Clear last) = AreClear ops n last
AreCompared ops n (Conflict first second) = AreFirstConflict ops first second

-- the conflict that it knows of
abbrev pub conflict_in : Compared → Option (Cluster × Cluster)
conflict_in (Clear last) = None
conflict_in (Conflict first second) = Some (first, second)

-- ---- what the whole pass finds

-- of the early reads, the one called first, with its write; or there is none
abbrev pub IsEarlyFound : List Operation → Option (Oper × Oper) → Type 0
IsEarlyFound ops None = AreInTime ops
IsEarlyFound ops (Some pair) =
    (r : Operation) × (w : Operation) × IsEarly ops r w
    × ((q u : Operation) → IsEarly ops q u → r.call ≤ q.call) × (name_of r ≡ pair.0)
    × (name_of w ≡ pair.1)

-- the first two clusters that conflict; or no two do
abbrev pub IsConflictFound : List Operation → Option (Cluster × Cluster) → Type 0
IsConflictFound ops None = (v w : Operation) → IsConflict ops v w → ⊥
IsConflictFound ops (Some pair) = AreFirstConflict ops pair.0 pair.1

-- what is found of a register in which each completed read has its write
pub record AreLaterFaults (ops : List Operation) (found : LaterFaults) : Type 0 where
  pub written : AreWritten ops
  pub early : IsEarlyFound ops found.early
  pub conflict : IsConflictFound ops found.conflict
