-- What each step does to the rows of clocks (this project's own).
use Rattle.std.specs.Prelude.{◌≡◌, ℕ, suc, ◌+◌, ◌<◌, ◌≤◌, max, List, [], length, slice_get, get_or}
use Rattle.std.specs.Prelude.{Option, None, Some, Vec}
use Rattle.std.specs.Global.{Global}
use Rattle.causal_order.specs.SessionClocks.Clocks.{held_rows, row_at}
use Rattle.causal_order.specs.declared.session_clocks.clocks.Clocks.{Clocks}
use Rattle.causal_order.specs.declared.session_clocks.table.SessionTable.{SessionTable}

abbrev pub AreEmpty : List (Vec ℕ Global) → Type 0
AreEmpty rows = (p : ℕ) (row : Vec ℕ Global) → slice_get rows p ≡ Some row → row.items ≡ []

-- the row of the operation at a place, if there is one
abbrev pub row_of : Clocks → Option ℕ → List ℕ
row_of clocks None = []
row_of clocks (Some d) = row_at clocks d

-- a row whose entries were raised to those of another
pub record IsRaised (old other new : List ℕ) : Type 0 where
  pub entries : length new ≡ length old
  pub each : (q : ℕ) → q < length old → get_or new q 0 ≡ max (get_or old q 0) (get_or other q 0)

-- what an operation learns of at once
abbrev pub found_at : List (Option ℕ) → ℕ → Option ℕ
found_at list p = get_or list p None

-- the entry that two operations know of
abbrev pub entry_of : Clocks → Option ℕ → Option ℕ → ℕ → ℕ
entry_of clocks before source q = max (get_or (row_of clocks before) q 0) (get_or (row_of clocks source) q 0)

-- the row that is made for the operation at place p, of session s, from those of what it learns of at once
pub record IsMade (table : SessionTable) (clocks : Clocks) (p s : ℕ) (row : List ℕ) : Type 0 where
  pub entries : length row ≡ table.count
  pub own : get_or row s 0 ≡ max
      (entry_of clocks (found_at table.previous.items p) (found_at table.sources.items p) s) (suc p)
  pub other : (q : ℕ) → q < table.count → (q ≡ s → ⊥) → get_or row q 0
      ≡ entry_of clocks (found_at table.previous.items p) (found_at table.sources.items p) q

-- the row of the operation at place p, and no other, was changed
pub record IsHolding (old new : Clocks) (p : ℕ) (row : List ℕ) : Type 0 where
  pub rows : length new.rows.items ≡ length old.rows.items
  pub until : new.until.items ≡ old.until.items
  pub held : new.held ≡ held_rows new
  pub at : row_at new p ≡ row
  pub other : (d : ℕ) → (d ≡ p → ⊥) → row_at new d ≡ row_at old d

-- rows were given up, or kept; `turn` is that which ends
pub record IsPassed (old new : Clocks) (turn : ℕ) (place : Option ℕ) : Type 0 where
  pub rows : length new.rows.items ≡ length old.rows.items
  pub until : new.until.items ≡ old.until.items
  pub held : new.held ≡ held_rows new
  pub gone : (d u : ℕ) → place ≡ Some d → slice_get old.until.items d ≡ Some u → u ≤ turn + 1
      → row_at new d ≡ []
  pub kept : (d u : ℕ) → slice_get old.until.items d ≡ Some u → turn + 1 < u → row_at new d ≡ row_at old d
  pub other : (d : ℕ) → (place ≡ Some d → ⊥) → row_at new d ≡ row_at old d

-- the operation at a place is needed in a turn
pub record IsMarked (old new : List ℕ) (place : Option ℕ) (turn : ℕ) : Type 0 where
  pub places : length new ≡ length old
  pub at : (d : ℕ) → place ≡ Some d → slice_get new d ≡ Some (suc turn)
  pub other : (d : ℕ) → (place ≡ Some d → ⊥) → slice_get new d ≡ slice_get old d
