-- Lists of operations by their calls, each once, and what shows that an operation belongs there (this
-- project's own words).
use Rattle.std.specs.Prelude.{◌≡◌, ℕ, ◌<◌, ◌≤◌, List, length, slice_get, Some}
use Rattle.history_model.specs.Legal.{IsBeforeInSession}
use Rattle.history_model.specs.Operations.{Precedes, value_of}
use Rattle.history_model.specs.declared.operation.Operation.{Operation}
use Rattle.reg_zones.specs.Clusters.{HasFirstReply}
use Rattle.reg_levels.specs.Clusters.Places.{IsAt}
use Rattle.reg_levels.specs.Counts.Staleness.{Gave, IsLost, IsOldAfter, IsOldRead, Wrote}
use Rattle.reg_levels.specs.declared.counts.old_read.OldRead.{OldRead}

-- Of the operations below place i, the list has those of which something holds, each once, by their calls.
-- Each entry shows it of the operation at its place.
pub record IsListByCall {X : Type 0} (place : X → ℕ) (Shows : X → Operation → Type 0)
    (Holds : Operation → Type 0) (ops : List Operation) (i : ℕ) (list : List X) : Type 0 where
  pub ascending : (j k : ℕ) (x z : X) → j < k → slice_get list j ≡ Some x → slice_get list k ≡ Some z
      → place x < place z
  pub each : (j : ℕ) (x : X) → slice_get list j ≡ Some x
      → (place x < i) × ((a : Operation) × IsAt ops (place x) a × Shows x a)
  pub all : (p : ℕ) (a : Operation) → p < i → IsAt ops p a → Holds a
      → (j : ℕ) × (x : X) × (slice_get list j ≡ Some x) × (place x ≡ p)

-- ---- old reads

-- of the operations that show a read to be old, the one that replies first
abbrev pub RepliesFirst : (e w e' w' : Operation) → Type 0
RepliesFirst e w e' w' = e.reply ≤ e'.reply

-- and the one with the newest value
abbrev pub IsNewest : (e w e' w' : Operation) → Type 0
IsNewest e w e' w' = w'.call ≤ w.call

-- x shows that r is old: by the earlier operation and the newer write that it names, the first of these, and
-- by the operation that had r's value first, which precedes that write
pub record IsShown (Earlier Had : Operation → Operation → Type 0) (First : (e w e' w' : Operation) → Type 0)
    (ops : List Operation) (x : OldRead) (r : Operation) : Type 0 where
  pub earlier : Operation
  pub newer : Operation
  pub seen : Operation
  pub at_earlier : IsAt ops x.earlier earlier
  pub at_newer : IsAt ops x.newer newer
  pub at_seen : IsAt ops x.seen seen
  pub old : IsOldAfter Earlier Had ops r earlier newer
  pub saw : HasFirstReply ops (value_of r) seen
  pub first : (e w : Operation) → IsOldAfter Earlier Had ops r e w → First earlier newer e w

abbrev pub read_of : OldRead → ℕ
read_of x = x.read

abbrev pub AreOldReads : (Earlier Had : Operation → Operation → Type 0)
    → (First : (e w e' w' : Operation) → Type 0) → List Operation → List OldRead → Type 0
AreOldReads Earlier Had First ops list =
    IsListByCall read_of (IsShown Earlier Had First ops) (IsOldRead Earlier Had ops) ops (length ops) list

abbrev pub AreStaleReads : List Operation → List OldRead → Type 0
AreStaleReads ops list = AreOldReads Precedes Wrote RepliesFirst ops list

abbrev pub AreOwnMissedReads : List Operation → List OldRead → Type 0
AreOwnMissedReads ops list = AreOldReads IsBeforeInSession Wrote IsNewest ops list

abbrev pub AreBackReads : List Operation → List OldRead → Type 0
AreBackReads ops list = AreOldReads IsBeforeInSession Gave IsNewest ops list

abbrev pub AreInvertedReads : List Operation → List OldRead → Type 0
AreInvertedReads ops list = AreOldReads Precedes Gave RepliesFirst ops list

-- ---- lost writes, by their places

abbrev pub AreLostWrites : List Operation → List ℕ → Type 0
AreLostWrites ops list = IsListByCall (λ p. p) (λ _ w. IsLost ops w) (IsLost ops) ops (length ops) list
