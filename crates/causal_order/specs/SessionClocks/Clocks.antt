-- What operations know of the sessions, as they are taken in, each after all that it learns of at once
-- (vector clocks: Mattern, Virtual Time and Global States of Distributed Systems, 1989; Fidge, 1988).
use Rattle.std.specs.Prelude.{◌≡◌, ◌↔◌, ℕ, ◌<◌, ◌≤◌, ◌⊎◌, ◌^◌, List, [], length, slice_get, get_or}
use Rattle.std.specs.Prelude.{Option, None, Some, Vec, suc, ◌+◌, ◌∷◌}
use Rattle.std.specs.Global.{Global}
use Rattle.history_model.specs.declared.operation.Operation.{Operation}
use Rattle.level_laws.specs.Causal.{IsWhole, Knows}
use Rattle.causal_order.specs.SessionClocks.Sessions.{HasPrevious, HasSession, HasSource, IsAt}
use Rattle.causal_order.specs.SessionClocks.Sessions.{IsCalledInOrder}
use Rattle.causal_order.specs.SessionClocks.Sessions.{IsSessionTable}
use Rattle.causal_order.specs.declared.session_clocks.clocks.Clocks.{Clocks}
use Rattle.causal_order.specs.declared.session_clocks.table.SessionTable.{SessionTable}

-- the operation at place p learns at once of that at place d
abbrev pub Asks : SessionTable → ℕ → ℕ → Type 0
Asks table p d = HasPrevious table p d ⊎ HasSource table p d

-- operations, each once and after those that it learns of at once
pub record IsLearningOrder (table : SessionTable) (order : List ℕ) : Type 0 where
  pub few : length order ≤ length table.numbers.items
  pub within : (i p : ℕ) → slice_get order i ≡ Some p → p < length table.numbers.items
  pub once : (i j p : ℕ) → slice_get order i ≡ Some p → slice_get order j ≡ Some p → i ≡ j
  pub after : (i p d : ℕ) → slice_get order i ≡ Some p → Asks table p d
      → (j : ℕ) × (j < i) × (slice_get order j ≡ Some d)

-- all that clocks rest on
pub record IsLearning (ops : List Operation) (table : SessionTable) (order : List ℕ) : Type 0 where
  pub whole : IsWhole ops
  pub called : IsCalledInOrder ops
  pub few : length ops < 2 ^ 22
  pub sessions : IsSessionTable ops table
  pub turns : IsLearningOrder table order

-- a row of clocks that says what b knows: of each session the operations at places below its entry, b
-- itself among them
pub record IsRow (ops : List Operation) (table : SessionTable) (b : Operation) (row : List ℕ) : Type 0 where
  pub entries : length row ≡ table.count
  pub known : (p q : ℕ) (a : Operation) → IsAt ops p a → HasSession table p q
      → ((p < get_or row q 0) ↔ ((a ≡ b) ⊎ Knows ops a b))

-- the row that is held of the operation at a place; an empty one if none is
abbrev pub entries_of : Option (Vec ℕ Global) → List ℕ
entries_of None = []
entries_of (Some row) = row.items

abbrev pub row_at : Clocks → ℕ → List ℕ
row_at clocks p = entries_of (slice_get clocks.rows.items p)

abbrev pub IsHeld : Clocks → ℕ → Type 0
IsHeld clocks p = 0 < length (row_at clocks p)

-- the operation at place d was taken in one of the first t turns
abbrev pub IsTaken : List ℕ → ℕ → ℕ → Type 0
IsTaken order t d = (j : ℕ) × (j < t) × (slice_get order j ≡ Some d)

-- one that is taken in turn t or later learns at once of that at place d
abbrev pub IsNeeded : SessionTable → List ℕ → ℕ → ℕ → Type 0
IsNeeded table order t d = (j p : ℕ) × (t ≤ j) × (slice_get order j ≡ Some p) × Asks table p d

-- ---- what is held

-- how many rows aren't empty
abbrev pub one_if_some : List ℕ → ℕ
one_if_some [] = 0
one_if_some (x ∷ xs) = 1

abbrev pub full_rows : List (Vec ℕ Global) → ℕ
full_rows [] = 0
full_rows (row ∷ rows) = one_if_some row.items + full_rows rows

abbrev pub held_rows : Clocks → ℕ
held_rows clocks = full_rows clocks.rows.items

-- a table of few operations, whose lists have an entry for each of them, and whose entries are in range
pub record IsTableInRange (table : SessionTable) : Type 0 where
  pub few : length table.numbers.items < 2 ^ 22
  pub numbers : (p s : ℕ) → HasSession table p s → s < table.count
  pub previous : length table.previous.items ≡ length table.numbers.items
  pub sources : length table.sources.items ≡ length table.numbers.items
  pub before : (p d : ℕ) → Asks table p d → d < length table.numbers.items

-- the lists have an entry for each operation, and the rows that are held are counted
pub record AreSized (table : SessionTable) (clocks : Clocks) : Type 0 where
  pub in_range : IsTableInRange table
  pub rows : length clocks.rows.items ≡ length table.numbers.items
  pub until : length clocks.until.items ≡ length table.numbers.items
  pub held : clocks.held ≡ held_rows clocks

-- 1 + the last turn in which an operation is taken that learns at once of that at place d; 0 if there is none
pub record IsLastTurn (table : SessionTable) (order : List ℕ) (turns d until : ℕ) : Type 0 where
  pub last : (j p : ℕ) → j < turns → slice_get order j ≡ Some p → Asks table p d → j < until
  pub is : (j : ℕ) → until ≡ suc j → (j < turns) × ((p : ℕ) × (slice_get order j ≡ Some p) × Asks table p d)

pub record AreLastTurns (table : SessionTable) (order : List ℕ) (turns : ℕ) (until : List ℕ) : Type 0 where
  pub places : length until ≡ length table.numbers.items
  pub each : (d u : ℕ) → slice_get until d ≡ Some u → IsLastTurn table order turns d u

-- the row of the operation at place d is due after t turns: the operation is taken, and needed later, or it
-- is the one that is taken now
abbrev pub IsDue : SessionTable → List ℕ → ℕ → Option ℕ → ℕ → Type 0
IsDue table order t now d = (now ≡ Some d) ⊎ (IsTaken order t d × IsNeeded table order t d)

-- Clocks after t turns, and, if `now` is there, after the operation at that place was taken in the next one:
-- rows of operations of sessions are held exactly if they are due, and each says what its operation knows.
pub record AreClocks (ops : List Operation) (table : SessionTable) (order : List ℕ) (t : ℕ) (now : Option ℕ)
    (clocks : Clocks) : Type 0 where
  pub learning : IsLearning ops table order
  pub sized : AreSized table clocks
  pub until : AreLastTurns table order (length order) clocks.until.items
  pub exact : (d : ℕ) (b : Operation) → IsAt ops d b → IsHeld clocks d → IsRow ops table b (row_at clocks d)
  pub only : (d : ℕ) → IsHeld clocks d → IsDue table order t now d
  pub all : (d s : ℕ) → HasSession table d s → IsDue table order t now d → IsHeld clocks d
