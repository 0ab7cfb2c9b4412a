-- Safe and regular registers, of one register's operations, `ops` (Lamport, On Interprocess
-- Communication, Part II, 1986, section 2).
use Rattle.std.specs.Prelude.{◌≡◌, ℕ, ◌≤◌, ◌⊎◌, ◌&&◌, not, Bool, List, Some}
use Rattle.std.specs.List.{filter}
use Rattle.history_model.specs.Lists.{In}
use Rattle.history_model.specs.Operations.{Precedes, Overlaps, IsWrite, is_write, value_of}
use Rattle.history_model.specs.declared.operation.Operation.{Operation}

-- at most one process calls writes
abbrev pub HasSingleWriter : List Operation → Type 0
HasSingleWriter ops =
    (v w : Operation) (p q : ℕ) → In v ops → In w ops → IsWrite v → IsWrite w → v.process ≡ Some p
    → w.process ≡ Some q → p ≡ q

-- w is the old write of r: of the writes that precede r, the initial one among them, the one called last
pub record IsOldWrite (ops : List Operation) (r w : Operation) : Type 0 where
  pub within : In w ops
  pub write : IsWrite w
  pub before : Precedes w r
  pub last : (v : Operation) → In v ops → IsWrite v → Precedes v r → v.call ≤ w.call

-- w is a write that overlaps r, pending or not
pub record IsOverlappedWrite (ops : List Operation) (r w : Operation) : Type 0 where
  pub within : In w ops
  pub write : IsWrite w
  pub overlaps : Overlaps w r

abbrev pub HasOldValue : List Operation → Operation → Type 0
HasOldValue ops r = (w : Operation) × IsOldWrite ops r w × (value_of w ≡ value_of r)

abbrev pub HasOverlappedValue : List Operation → Operation → Type 0
HasOverlappedValue ops r = (w : Operation) × IsOverlappedWrite ops r w × (value_of w ≡ value_of r)

-- what a safe register owes a read: where no write overlaps it, the old write's value
abbrev pub KeepsSafe : List Operation → Operation → Type 0
KeepsSafe ops r = ((w : Operation) → IsOverlappedWrite ops r w → ⊥) → HasOldValue ops r

-- what a regular register owes a read: the value of its old write or of an overlapped one
abbrev pub KeepsRegular : List Operation → Operation → Type 0
KeepsRegular ops r = HasOldValue ops r ⊎ HasOverlappedValue ops r

abbrev pub is_completed_read : Operation → Bool
is_completed_read a = not (is_write a) && a.completed

-- the completed reads, by call where the operations stand by call
abbrev pub completed_reads : List Operation → List Operation
completed_reads ops = filter is_completed_read ops
