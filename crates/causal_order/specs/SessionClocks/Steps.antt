-- What each step towards the table finds of the operations, `ops` (this project's own).
use Rattle.std.specs.Prelude.{◌≡◌, ◌⊎◌, ℕ, ◌<◌, ◌≤◌, ◌==◌, ℤ, List, cond, length, slice_get}
use Rattle.std.specs.Prelude.{Option, None, Some, option_and_then}
use Rattle.std.specs.BTreeMap.{BTreeMap, get}
use Rattle.std.specs.Option.{option_cmp}
use Rattle.std.specs.Ordering.{int_cmp, nat_cmp, ordering_then}
use Rattle.std.specs.declared.cmp.Ordering.{Ordering}
use Rattle.history_text.specs.declared.event.Val.{Val}
use Rattle.history_text.specs.declared.event.Val.TheVariants.{Null, Int}
use Rattle.history_model.specs.Acts.{given_by}
use Rattle.history_model.specs.declared.act.Act.{Act}
use Rattle.history_model.specs.declared.act.Act.TheVariants.{Read}
use Rattle.history_model.specs.declared.operation.Operation.{Operation}
use Rattle.causal_order.specs.SessionClocks.Sessions.{IsAt, IsSourceAt}

-- ---- numbers

-- the number of a process, if it has one: that which it had, or else the next one
abbrev pub IsNumbered : (ℕ → Option ℕ) → (ℕ → Option ℕ) → ℕ → Option ℕ → Option ℕ → Type 0
IsNumbered old new count None number = (number ≡ None) × ((y : ℕ) → new y ≡ old y)
IsNumbered old new count (Some x) number =
    ((s : ℕ) × (old x ≡ Some s) × (number ≡ Some s) × ((y : ℕ) → new y ≡ old y))
    ⊎ ((old x ≡ None) × (number ≡ Some count) × ((y : ℕ) → new y ≡ cond (x == y) (Some count) (old y)))

-- the numbers of the operations that stand below a place, each by its process
pub record AreNumbers (ops : List Operation) (i count : ℕ) (known : ℕ → Option ℕ)
    (numbers : List (Option ℕ)) : Type 0 where
  pub places : length numbers ≡ i
  pub few : count ≤ i
  pub each : (p : ℕ) (a : Operation) (n : Option ℕ) → IsAt ops p a → slice_get numbers p ≡ Some n
      → n ≡ option_and_then known a.process
  pub total : (p x : ℕ) (a : Operation) → p < i → IsAt ops p a → a.process ≡ Some x
      → (s : ℕ) × (known x ≡ Some s)
  pub below : (x s : ℕ) → known x ≡ Some s → s < count
  pub apart : (x y s : ℕ) → known x ≡ Some s → known y ≡ Some s → x ≡ y
  pub used : (s : ℕ) → s < count → (p : ℕ) × (slice_get numbers p ≡ Some (Some s))

-- ---- what a session called last

-- the last place below i that has this number, if there is one
abbrev pub IsLatest : List (Option ℕ) → ℕ → ℕ → Option ℕ → Type 0
IsLatest numbers i s None = (q : ℕ) → q < i → slice_get numbers q ≡ Some (Some s) → ⊥
IsLatest numbers i s (Some d) = (d < i) × (slice_get numbers d ≡ Some (Some s))
    × ((q : ℕ) → q < i → slice_get numbers q ≡ Some (Some s) → q ≤ d)

abbrev pub IsLatestOf : List (Option ℕ) → ℕ → Option ℕ → Option ℕ → Type 0
IsLatestOf numbers i None found = found ≡ None
IsLatestOf numbers i (Some s) found = IsLatest numbers i s found

-- for each number the last place below i that has it
abbrev pub AreLatest : List (Option ℕ) → ℕ → List (Option ℕ) → Type 0
AreLatest numbers i latest = (s : ℕ) (found : Option ℕ) → slice_get latest s ≡ Some found
    → IsLatest numbers i s found

-- for each place below i the last one before it that has its number
pub record ArePrevious (numbers : List (Option ℕ)) (i : ℕ) (previous : List (Option ℕ)) : Type 0 where
  pub places : length previous ≡ i
  pub each : (p : ℕ) (n found : Option ℕ) → slice_get numbers p ≡ Some n → slice_get previous p ≡ Some found
      → IsLatestOf numbers p n found

-- ---- writes by register and value

-- the number of a value, if it is one
abbrev pub number_in : Val → Option ℤ
number_in Null = None
number_in (Int n) = Some n

-- at place p stands a write of the value to the register
abbrev pub IsWriteOf : List Operation → ℕ → Val → ℕ → Type 0
IsWriteOf ops r v p =
    (w : Operation) × IsAt ops p w × (w.register ≡ r) × (given_by w.act ≡ Some v)

-- the place of a write of the value to the register, if one stands below a place
abbrev pub IsWriteFound : List Operation → ℕ → ℕ → Val → Option ℕ → Type 0
IsWriteFound ops i r v None = (p : ℕ) → p < i → IsWriteOf ops r v p → ⊥
IsWriteFound ops i r v (Some p) = IsWriteOf ops r v p

-- registers with values, in order
abbrev pub key_cmp : ℕ × Option ℤ → ℕ × Option ℤ → Ordering
key_cmp a b = ordering_then (nat_cmp a.0 b.0) (option_cmp int_cmp a.1 b.1)

-- what a map has for a register and a value
abbrev pub found_in : BTreeMap (ℕ × Option ℤ) ℕ → ℕ × Option ℤ → Option ℕ
found_in writes key = get key_cmp writes key

-- the same of each register and value
abbrev pub AreValueWrites : List Operation → ℕ → (ℕ × Option ℤ → Option ℕ) → Type 0
AreValueWrites ops i found = (r : ℕ) (v : Val) → IsWriteFound ops i r v (found (r, number_in v))

-- ---- sources

-- the value that a read gives, if that is known
abbrev pub read_by : Act → Option Val
read_by (Read given) = given
read_by act = None

-- the places of the writes of the completed reads that stand below a place
pub record AreSources (ops : List Operation) (i : ℕ) (sources : List (Option ℕ)) : Type 0 where
  pub places : length sources ≡ i
  pub each : (p : ℕ) (a : Operation) (found : Option ℕ) → IsAt ops p a → slice_get sources p ≡ Some found
      → IsSourceAt ops a found
