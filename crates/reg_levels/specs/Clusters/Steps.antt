-- What each step towards the table finds of a register's operations, `ops` (this project's own).
use Rattle.std.specs.Prelude.{◌≡◌, ℕ, ◌<◌, ◌≤◌, ◌⊎◌, ℤ, List, length, slice_get, Option, Some, None}
use Rattle.std.specs.Prelude.{false, MatchOption}
use Rattle.std.specs.BTreeMap.{BTreeMap, get}
use Rattle.std.specs.Ordering.{int_cmp}
use Rattle.history_text.specs.declared.event.Val.{Val}
use Rattle.history_text.specs.declared.event.Val.TheVariants.{Null, Int}
use Rattle.history_model.specs.Acts.{given_by}
use Rattle.history_model.specs.Operations.{IsWrite, IsCompleted, is_write, value_of}
use Rattle.history_model.specs.declared.operation.Operation.{Operation}
use Rattle.reg_zones.specs.Clusters.{IsKept, IsInCluster}
use Rattle.reg_levels.specs.Clusters.Places.{IsAt}
use Rattle.reg_levels.specs.declared.clusters.table.ClusterEnds.{ClusterEnds}

-- ---- writes by value

-- at the place stands an operation that gives the register the value
abbrev pub IsWriteAt : List Operation → Val → ℕ → Type 0
IsWriteAt ops v p = (a : Operation) × IsAt ops p a × (given_by a.act ≡ Some v)

-- the place of a write of the value, if one stands below a place
abbrev pub IsWriteFound : List Operation → ℕ → Val → Option ℕ → Type 0
IsWriteFound ops i v found = MatchOption found ((p : ℕ) → p < i → IsWriteAt ops v p → ⊥) (IsWriteAt ops v)

-- the map has the places of the writes of integers that stand below a place
abbrev pub AreIntegerWrites : List Operation → ℕ → BTreeMap ℤ ℕ → Type 0
AreIntegerWrites ops i writes = (n : ℤ) → IsWriteFound ops i (Int n) (get int_cmp writes n)

-- the place of the write of a value
abbrev pub write_in : Option ℕ → BTreeMap ℤ ℕ → Val → Option ℕ
write_in null integers Null = null
write_in null integers (Int n) = get int_cmp integers n

-- ---- the write of each operation

-- the place of the write of a's value; a pending read has none
abbrev pub IsSource : List Operation → Operation → Option ℕ → Type 0
IsSource ops a None = (is_write a ≡ false) × (a.completed ≡ false)
IsSource ops a (Some q) =
    (w : Operation) × IsAt ops q w × IsWrite w × (value_of a ≡ value_of w) × (IsWrite a ⊎ IsCompleted a)

-- the places of the writes of the operations that stand below a place
pub record AreSources (ops : List Operation) (i : ℕ) (sources : List (Option ℕ)) : Type 0 where
  pub places : length sources ≡ i
  pub each : (p : ℕ) (a : Operation) (s : Option ℕ) → IsAt ops p a → slice_get sources p ≡ Some s
      → IsSource ops a s

-- ---- the ends of the clusters

-- the ends of a cluster that has its write alone
abbrev pub IsAlone : ℕ → Operation → ClusterEnds → Type 0
IsAlone q w c = c ≡ record { write = q; first = q; last = q; first_reply = w.reply; last_call = w.call }

-- one more member of a cluster
pub record IsWidened (p : ℕ) (a : Operation) (old new : ClusterEnds) : Type 0 where
  pub write : new.write ≡ old.write
  pub reply : ((new.first ≡ p) × (new.first_reply ≡ a.reply) × (a.reply ≤ old.first_reply))
      ⊎ ((new.first ≡ old.first) × (new.first_reply ≡ old.first_reply) × (old.first_reply ≤ a.reply))
  pub call : ((new.last ≡ p) × (new.last_call ≡ a.call) × (old.last_call ≤ a.call))
      ⊎ ((new.last ≡ old.last) × (new.last_call ≡ old.last_call) × (a.call ≤ old.last_call))

-- the ends of what stands below a place of the cluster of a kept write, which stands at q
pub record IsEndsBelow (ops : List Operation) (i q : ℕ) (w : Operation) (c : ClusterEnds) : Type 0 where
  pub write : c.write ≡ q
  pub kept : IsKept ops w
  pub at_first : (a : Operation) × IsAt ops c.first a × IsInCluster ops (value_of w) a
      × (a.reply ≡ c.first_reply)
  pub at_last : (a : Operation) × IsAt ops c.last a × IsInCluster ops (value_of w) a × (a.call ≡ c.last_call)
  pub own : (c.first_reply ≤ w.reply) × (w.call ≤ c.last_call)
  pub below : (p : ℕ) (a : Operation) → p < i → IsAt ops p a → IsCompleted a → value_of a ≡ value_of w
      → (c.first_reply ≤ a.reply) × (a.call ≤ c.last_call)

-- the same of what stands at q, if it is a write that is known to be kept
abbrev pub IsEndsFound : List Operation → ℕ → ℕ → Operation → Option ClusterEnds → Type 0
IsEndsFound ops i q w None =
    IsWrite w → (p : ℕ) (a : Operation) → p < i → IsAt ops p a → IsCompleted a → value_of a ≡ value_of w → ⊥
IsEndsFound ops i q w (Some c) = IsEndsBelow ops i q w c

-- the same of each operation
pub record AreEnds (ops : List Operation) (i : ℕ) (ends : List (Option ClusterEnds)) : Type 0 where
  pub places : length ends ≡ length ops
  pub each : (q : ℕ) (w : Operation) (found : Option ClusterEnds) → IsAt ops q w
      → slice_get ends q ≡ Some found → IsEndsFound ops i q w found

-- ---- the numbers

-- the ends that are known, in order, each numbered where it was found
pub record IsNumberedBelow (ends : List (Option ClusterEnds)) (i : ℕ) (clusters : List ClusterEnds)
    (numbers : List (Option ℕ)) : Type 0 where
  pub places : length numbers ≡ i
  pub some : (q : ℕ) (c : ClusterEnds) → q < i → slice_get ends q ≡ Some (Some c)
      → (k : ℕ) × (slice_get numbers q ≡ Some (Some k)) × (slice_get clusters k ≡ Some c)
  pub none : (q : ℕ) → q < i → slice_get ends q ≡ Some None → slice_get numbers q ≡ Some None
  pub each : (k : ℕ) (c : ClusterEnds) → slice_get clusters k ≡ Some c
      → (q : ℕ) × (q < i) × (slice_get ends q ≡ Some (Some c))
  pub ascending : (j k : ℕ) (c d : ClusterEnds) → j < k → slice_get clusters j ≡ Some c
      → slice_get clusters k ≡ Some d → c.write < d.write
  pub few : length clusters ≤ i

-- the ends of each write stand at its place
abbrev pub StandAtWrites : List (Option ClusterEnds) → Type 0
StandAtWrites ends = (q : ℕ) (c : ClusterEnds) → slice_get ends q ≡ Some (Some c) → c.write ≡ q

-- the number that an operation has from its write
abbrev pub IsNumberFrom : List (Option ℕ) → Option ℕ → Option ℕ → Type 0
IsNumberFrom by_write None number = number ≡ None
IsNumberFrom by_write (Some q) number = slice_get by_write q ≡ Some number

-- the numbers of the operations that stand below a place
pub record AreFromWrites (by_write sources : List (Option ℕ)) (i : ℕ) (numbers : List (Option ℕ)) : Type 0
  where
    pub places : length numbers ≡ i
    pub each : (p : ℕ) (s n : Option ℕ) → slice_get sources p ≡ Some s → slice_get numbers p ≡ Some n
        → IsNumberFrom by_write s n
