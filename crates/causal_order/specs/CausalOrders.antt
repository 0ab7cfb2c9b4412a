-- The tests by which the writes of a causal order are listed, by their places (this project's own words).
use Rattle.std.specs.Prelude.{◌≡◌, ℕ, ◌<◌, ◌&&◌, ◌||◌, Bool, true, false, List, length, slice_get, Option}
use Rattle.std.specs.Prelude.{Some, None}
use Rattle.std.specs.Option.{is_none, is_some}
use Rattle.history_model.specs.Operations.{is_write}
use Rattle.history_model.specs.declared.operation.Operation.{Operation}
use Rattle.causal_order.specs.SessionClocks.Sessions.{HasSource}
use Rattle.causal_order.specs.declared.session_clocks.table.SessionTable.{SessionTable}

-- nobody called it
abbrev pub is_initial_of : Option Operation → Bool
is_initial_of None = false
is_initial_of (Some a) = is_none a.process

abbrev pub is_initial_at : List Operation → ℕ → Bool
is_initial_at ops p = is_initial_of (slice_get ops p)

-- somebody called it, and it is a write that is completed or read
abbrev pub is_listed_op : Operation → Bool → Bool
is_listed_op a read = is_some a.process && is_write a && (a.completed || read)

abbrev pub is_listed_of : Option Operation → Option Bool → Bool
is_listed_of None read = false
is_listed_of (Some a) None = false
is_listed_of (Some a) (Some read) = is_listed_op a read

abbrev pub is_listed_at : List Operation → List Bool → ℕ → Bool
is_listed_at ops read p = is_listed_of (slice_get ops p) (slice_get read p)

-- whether one of the operations below place n gives the value that the operation at a place wrote
pub record AreReads (table : SessionTable) (n : ℕ) (read : List Bool) : Type 0 where
  pub size : length read ≡ length table.sources.items
  pub only : (s : ℕ) → slice_get read s ≡ Some true → (p : ℕ) × HasSource table p s
  pub all : (p s : ℕ) → p < n → HasSource table p s → slice_get read s ≡ Some true
