-- The sessions of a whole history's operations, `ops`, which are named by their places in that list, and what
-- each operation learns of at once (this project's own words).
use Rattle.std.specs.Prelude.{◌≡◌, ◌↔◌, ℕ, ◌<◌, ◌≤◌, List, length, slice_get, Option, None, Some}
use Rattle.history_model.specs.Lists.{Before}
use Rattle.history_model.specs.Operations.{IsCompletedRead}
use Rattle.history_model.specs.declared.operation.Operation.{Operation}
use Rattle.level_laws.specs.Causal.{IsSource}
use Rattle.level_laws.specs.CausalFault.{IsUnwrittenRead}
pub use Rattle.reg_levels.specs.Clusters.Places.{IsAt}
use Rattle.causal_order.specs.declared.session_clocks.table.SessionTable.{SessionTable}

-- the initial writes come first, then what somebody called, by the calls
pub record IsCalledInOrder (ops : List Operation) : Type 0 where
  pub once : (a : Operation) → Before a a ops → ⊥
  pub called : (a b : Operation) (x : ℕ) → Before a b ops → b.process ≡ Some x → a.call < b.call
  pub initial : (a b : Operation) (x : ℕ) → Before a b ops → a.process ≡ Some x → b.process ≡ None → ⊥

-- the operation at place p is of session s
abbrev pub HasSession : SessionTable → ℕ → ℕ → Type 0
HasSession table p s = slice_get table.numbers.items p ≡ Some (Some s)

-- the operation at place d is the one that the session of that at place p called last before it
abbrev pub HasPrevious : SessionTable → ℕ → ℕ → Type 0
HasPrevious table p d = slice_get table.previous.items p ≡ Some (Some d)

-- the operation at place d wrote the value that that at place p gives
abbrev pub HasSource : SessionTable → ℕ → ℕ → Type 0
HasSource table p d = slice_get table.sources.items p ≡ Some (Some d)

-- the operation, if there is one, that the process of a, at place p, called last before it
abbrev pub IsPrevious : List Operation → ℕ → Operation → Option ℕ → Type 0
IsPrevious ops p a None =
    (q x : ℕ) (b : Operation) → q < p → IsAt ops q b → a.process ≡ Some x → b.process ≡ Some x → ⊥
IsPrevious ops p a (Some d) =
    (x : ℕ) × (c : Operation) × (d < p) × IsAt ops d c × (a.process ≡ Some x) × (c.process ≡ Some x)
    × ((q : ℕ) (b : Operation) → q < p → IsAt ops q b → b.process ≡ Some x → q ≤ d)

-- the write of a's value, if a is a completed read
abbrev pub IsSourceAt : List Operation → Operation → Option ℕ → Type 0
IsSourceAt ops a None = IsCompletedRead a → ⊥
IsSourceAt ops a (Some d) = (w : Operation) × IsAt ops d w × IsSource w a

-- the sessions of the operations, numbered from 0, and what each operation learns of at once
pub record IsSessionTable (ops : List Operation) (table : SessionTable) : Type 0 where
  pub numbers : length table.numbers.items ≡ length ops
  pub previous : length table.previous.items ≡ length ops
  pub sources : length table.sources.items ≡ length ops
  -- what nobody called is of no session, all else of one
  pub none : (p : ℕ) (a : Operation) → IsAt ops p a → a.process ≡ None → slice_get table.numbers.items p ≡
      Some None
  pub some : (p x : ℕ) (a : Operation) → IsAt ops p a → a.process ≡ Some x → (s : ℕ) × HasSession table p s
  -- two are of one session exactly if one process called both
  pub same : (p q s : ℕ) (a b : Operation) → IsAt ops p a → IsAt ops q b → HasSession table p s
      → (HasSession table q s ↔ (a.process ≡ b.process))
  pub below : (p s : ℕ) → HasSession table p s → s < table.count
  pub used : (s : ℕ) → s < table.count → (p : ℕ) × HasSession table p s
  pub each_previous : (p : ℕ) (a : Operation) (found : Option ℕ) → IsAt ops p a
      → slice_get table.previous.items p ≡ Some found → IsPrevious ops p a found
  pub each_source : (p : ℕ) (a : Operation) (found : Option ℕ) → IsAt ops p a
      → slice_get table.sources.items p ≡ Some found → IsSourceAt ops a found

-- at the place stands the first completed read whose value nobody wrote to its register
abbrev pub IsFirstUnwritten : List Operation → ℕ → Type 0
IsFirstUnwritten ops p =
    (r : Operation) × IsAt ops p r × IsUnwrittenRead ops r
    × ((q : ℕ) (b : Operation) → q < p → IsAt ops q b → IsUnwrittenRead ops b → ⊥)
