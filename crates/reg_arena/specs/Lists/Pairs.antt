-- The pairs of registers and values: those that ascend in their register, each with
-- the one before it, and those of a table.
use Rattle.std.specs.Prelude.{◌≡◌, ◌<◌, ◌≤◌, ◌⊎◌, ◌&&◌, ◌<ℤ◌, ◌≤ℤ◌, Bool, nat_eq}
use Rattle.std.specs.Prelude.{ℕ, ℤ, List, Option, Some, None, slice_get}
use Rattle.indexmap.specs.IndexMap.{IndexMap, get}
use Rattle.std.specs.Ordering.{int_eq}
use Rattle.std.specs.Option.{option_eq}
use Rattle.reg_arena.specs.declared.event_lists.ascent.Pair.{Pair}

-- whether two keys are the same register and value
abbrev pub key_eq : ℕ × Option ℤ → ℕ × Option ℤ → Bool
key_eq a b = nat_eq a.0 b.0 && option_eq int_eq a.1 b.1

-- a pair as contracts see it
abbrev pub key_of : Pair → ℕ × Option ℤ
key_of p = (p.register, p.value)

-- the number that a key has in the table
abbrev pub in_table : {S : Type 0} → IndexMap (ℕ × Option ℤ) ℕ S → ℕ × Option ℤ → Option ℕ
in_table table k = get key_eq table k

-- the pair at a place ascends, and is of this register and value
pub record IsAscending (pairs : List Pair) (n r : ℕ) (v : ℤ) : Type 0 where
  pub pair : Pair
  pub at : slice_get pairs n ≡ Some pair
  pub register : pair.register ≡ r
  pub value : pair.value ≡ Some v
  pub deep : 0 < pair.depth

-- The ascending pairs of each register.
pub record IsAscent (pairs : List Pair) : Type 0 where
  -- each leads back to one of its register, or to itself
  pub back : (n r : ℕ) (v : ℤ) → (a : IsAscending pairs n r v)
      → (a.pair.previous ≡ n) ⊎ ((w : ℤ) × IsAscending pairs a.pair.previous r w)
  -- there is none between
  pub last : (m n r : ℕ) (v w : ℤ) → (a : IsAscending pairs n r v) → IsAscending pairs m r w → m < n
      → (m ≤ a.pair.previous) × (a.pair.previous < n)
  -- their values ascend
  pub ascends : (m n r : ℕ) (v w : ℤ) → IsAscending pairs m r v → IsAscending pairs n r w → m < n → v <ℤ w

-- All pairs. `top`: the last ascending pair of a register; `table`: the number of a key in the table.
pub record ArePairs (pairs : List Pair) (top : ℕ → Option ℕ) (table : ℕ × Option ℤ → Option ℕ) : Type 0 where
  pub ascent : IsAscent pairs
  pub tops : (r t : ℕ) → top r ≡ Some t → (v : ℤ) × IsAscending pairs t r v
  -- no whole number of a register is above its top
  pub below : (n : ℕ) (p : Pair) (v : ℤ) → slice_get pairs n ≡ Some p → p.value ≡ Some v
      → (t : ℕ) × (w : ℤ) × (top p.register ≡ Some t) × IsAscending pairs t p.register w × (v ≤ℤ w)
  -- a pair ascends or stands in the table, which has only pairs
  pub found : (n : ℕ) (p : Pair) → slice_get pairs n ≡ Some p → ((v : ℤ) × IsAscending pairs n p.register v)
      ⊎ (table (key_of p) ≡ Some n)
  pub sound : (k : ℕ × Option ℤ) (n : ℕ) → table k ≡ Some n → (p : Pair) × (slice_get pairs n ≡ Some p)
      × (key_of p ≡ k)
  -- no key stands twice
  pub distinct : (m n : ℕ) (p q : Pair) → slice_get pairs m ≡ Some p → slice_get pairs n ≡ Some q
      → key_of p ≡ key_of q → m ≡ n

-- a new pair that is above the top of its register leads back to that, and another one has no depth
abbrev pub IsFitting : List Pair → (ℕ → Option ℕ) → ℕ → Pair → Type 0
IsFitting pairs top n p =
    ((0 < p.depth)
    × ((v : ℤ) × (p.value ≡ Some v)
    × (((top p.register ≡ None) × (p.previous ≡ n))
    ⊎ ((t : ℕ) × (w : ℤ) × (top p.register ≡ Some t) × IsAscending pairs t p.register w × (w <ℤ v)
    × (p.previous ≡ t)))))
    ⊎ ((p.depth ≡ 0)
    × ((v : ℤ) → p.value ≡ Some v → (t : ℕ) × (w : ℤ) × (top p.register ≡ Some t)
    × IsAscending pairs t p.register w × (v ≤ℤ w)))
