-- Tables whose places may be empty.
use Rattle.std.specs.Prelude.{◌≡◌, ◌⊎◌, ℕ, List, slice_get, Option, Some, option_and_then}

-- what stands at a place of a column, if something does
abbrev pub item_at : {A : Type 0} → List (Option A) → ℕ → Option A
item_at column i = option_and_then (λ o. o) (slice_get column i)

-- one key has a new item, and the others those that they had
pub record IsSetAt {K A : Type 0} (k : K) (e : A) (items new_items : K → Option A) : Type 0 where
  pub one : new_items k ≡ Some e
  pub others : (q : K) → (q ≡ k) ⊎ ((q ≡ k → ⊥) × (new_items q ≡ items q))
