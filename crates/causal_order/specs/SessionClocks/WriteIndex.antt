-- The writes of a history by register, session and place.
use Rattle.std.specs.Prelude.{◌≡◌, ◌⊎◌, ℕ, ◌<◌, ◌≤◌, ◌==◌, nat_lt, ◌&&◌, ◌||◌, Bool, List, [], length}
use Rattle.std.specs.Prelude.{slice_get}
use Rattle.std.specs.Prelude.{Option, None, Some, Vec}
use Rattle.std.specs.Global.{Global}
use Rattle.std.specs.List.Sorted.{IsPermutation}
use Rattle.history_model.specs.Operations.{IsWrite}
use Rattle.history_model.specs.declared.operation.Operation.{Operation}
use Rattle.causal_order.specs.SessionClocks.Sessions.{HasSession, IsAt}
use Rattle.causal_order.specs.declared.session_clocks.table.SessionTable.{SessionTable}
use Rattle.causal_order.specs.declared.session_clocks.writes.SessionWrite.{SessionWrite}
use Rattle.causal_order.specs.declared.session_clocks.writes.WriteIndex.{WriteIndex}

-- at place p stands a write that session s made to register r
abbrev pub IsWriteBy : List Operation → SessionTable → ℕ → ℕ → ℕ → Type 0
IsWriteBy ops table r s p =
    (w : Operation) × IsAt ops p w × IsWrite w × (w.register ≡ r) × HasSession table p s

-- the session of the operation at a place, if it is a write of one
abbrev pub IsWritingSession : List Operation → SessionTable → ℕ → Option ℕ → Type 0
IsWritingSession ops table p None = (r s : ℕ) → IsWriteBy ops table r s p → ⊥
IsWritingSession ops table p (Some s) =
    (w : Operation) × IsAt ops p w × IsWrite w × HasSession table p s

-- of the writes of session s to register r that stand below a place, the last one
abbrev pub IsLastBelow : List Operation → SessionTable → ℕ → ℕ → ℕ → Option ℕ → Type 0
IsLastBelow ops table r s place None = (p : ℕ) → p < place → IsWriteBy ops table r s p → ⊥
IsLastBelow ops table r s place (Some last) =
    (last < place) × IsWriteBy ops table r s last
    × ((p : ℕ) → p < place → IsWriteBy ops table r s p → p ≤ last)

-- ---- the list of a register

-- v doesn't come after w by session, then by place
abbrev pub IsUpTo : SessionWrite → SessionWrite → Type 0
IsUpTo v w = (v.session < w.session) ⊎ ((v.session ≡ w.session) × (v.place ≤ w.place))

abbrev pub AreAscending : List SessionWrite → Type 0
AreAscending writes = (j k : ℕ) (v w : SessionWrite) → j < k → slice_get writes j ≡ Some v
    → slice_get writes k ≡ Some w → IsUpTo v w

-- whether a write comes before what the session does at the place
abbrev pub is_before : SessionWrite → ℕ → ℕ → Bool
is_before w s place = nat_lt w.session s || (w.session == s && nat_lt w.place place)

-- of a list in order the last write of the session below the place
abbrev pub IsLastIn : List SessionWrite → ℕ → ℕ → Option ℕ → Type 0
IsLastIn writes s place None =
    (k : ℕ) (w : SessionWrite) → slice_get writes k ≡ Some w → w.session ≡ s → w.place < place → ⊥
IsLastIn writes s place (Some last) =
    (last < place) × ((k : ℕ) × (slice_get writes k ≡ Some (record { session = s; place = last })))
    × ((k : ℕ) (w : SessionWrite) → slice_get writes k ≡ Some w → w.session ≡ s → w.place < place
    → w.place ≤ last)

-- the list has the writes of sessions to register r that stand below place i, and nothing else
pub record AreWritesTo (ops : List Operation) (table : SessionTable) (i r : ℕ) (writes : List SessionWrite)
    : Type 0 where
  pub only : (k : ℕ) (w : SessionWrite) → slice_get writes k ≡ Some w
      → (w.place < i) × IsWriteBy ops table r w.session w.place
  pub all : (s p : ℕ) → p < i → IsWriteBy ops table r s p → (k : ℕ)
      × (slice_get writes k ≡ Some (record { session = s; place = p }))

-- ---- the lists of all registers

abbrev pub list_in : Option (Vec SessionWrite Global) → List SessionWrite
list_in None = []
list_in (Some list) = list.items

-- the writes to register r
abbrev pub writes_to : WriteIndex → ℕ → List SessionWrite
writes_to index r = list_in (slice_get index.registers.items r)

abbrev pub IsOrdered : WriteIndex → Type 0
IsOrdered index = (r : ℕ) → AreAscending (writes_to index r)

-- the writes of all sessions, in order
pub record IsWriteIndex (ops : List Operation) (table : SessionTable) (index : WriteIndex) : Type 0 where
  pub ordered : IsOrdered index
  pub each : (r : ℕ) → AreWritesTo ops table (length ops) r (writes_to index r)

-- the writes that stand below place i
pub record IsListed (ops : List Operation) (table : SessionTable) (i : ℕ) (index : WriteIndex) : Type 0 where
  pub registers : (p : ℕ) (a : Operation) → IsAt ops p a → a.register < length index.registers.items
  pub each : (r : ℕ) → AreWritesTo ops table i r (writes_to index r)

-- the lists of the registers below i are sorted, the others as they were
pub record AreSortedBelow (old new : WriteIndex) (i : ℕ) : Type 0 where
  pub registers : length new.registers.items ≡ length old.registers.items
  pub sorted : (r : ℕ) → r < i → AreAscending (writes_to new r)
  pub moved : (r : ℕ) → IsPermutation (writes_to old r) (writes_to new r)
  pub rest : (r : ℕ) → i ≤ r → writes_to new r ≡ writes_to old r
