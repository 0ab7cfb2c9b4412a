-- How the totals over the seats change with one seat.
use Rattle.std.proofs.Common.{◌≡◌, ℕ, zero, suc, ◌+◌, ◌≤◌, Bool, true, false}
use Rattle.std.proofs.Common.{List, [], ◌∷◌, ◌++◌, set, sym, refl, ap, arith}
use mathlib.Core.Option.{some, some-injective, some-ne-none}
use lib.ListN.{get_elem?}
use Rattle.job_board.specs.Seats.{View}
use Rattle.job_board.specs.Facts.{total, weight_of, number_if, exhausted_weight, EachSeat}

-- where one seat changes, the total changes as it does
pub total_set : (f : View → ℕ) (vs : List View) (id : ℕ) (v w : View) → get_elem? vs id ≡ some v
    → total f (set vs id w) + f v ≡ total f vs + f w
total_set f [] id v w e = absurd (some-ne-none v (sym e))
total_set f (x ∷ xs) zero v w e = let h : f x ≡ f v = ap f (some-injective x v e) in omega arith
total_set f (x ∷ xs) (suc id) v w e = let h = total_set f xs id v w e in omega arith

-- what is not changed in a seat is not changed in all
pub total_same : (f : View → ℕ) (vs : List View) (id : ℕ) (v w : View) → get_elem? vs id ≡ some v → f w ≡ f v
    → total f (set vs id w) ≡ total f vs
total_same f vs id v w at e = let h = total_set f vs id v w at in omega arith

-- a seat more adds what it has
pub total_snoc : (f : View → ℕ) (vs : List View) (w : View) → total f (vs ++ w ∷ []) ≡ total f vs + f w
total_snoc f [] w = omega arith
total_snoc f (x ∷ xs) w = let h = total_snoc f xs w in omega arith

-- no seat has more than all
pub total_at : (f : View → ℕ) (vs : List View) (id : ℕ) (v : View) → get_elem? vs id ≡ some v
    → f v ≤ total f vs
total_at f [] id v e = absurd (some-ne-none v (sym e))
total_at f (x ∷ xs) zero v e = let h : f x ≡ f v = ap f (some-injective x v e) in omega arith
total_at f (x ∷ xs) (suc id) v e = let h = total_at f xs id v e in omega arith

-- what is no greater in each seat is no greater in all
pub total_below : (f g : View → ℕ) → ((v : View) → f v ≤ g v) → (vs : List View) → total f vs ≤ total g vs
total_below f g h [] = omega arith
total_below f g h (x ∷ xs) = let a = h x in let b = total_below f g h xs in omega arith

-- where the seats have no weight, a function that is 0 without weight adds up to 0
pub total_none : (f : View → ℕ) (vs : List View) → EachSeat (λ v. v.weight ≡ 0 → f v ≡ 0) vs
    → total weight_of vs ≡ 0 → total f vs ≡ 0
total_none f [] h e = refl
total_none f (x ∷ xs) h e =
    let a : f x ≡ 0 =
    h 0 x refl (omega arith) in let b =
    total_none f xs (λ id v at. h (suc id) v at) (omega arith) in omega arith

-- where one seat has all the weight, it has all the rest
pub total_alone : (f : View → ℕ) (vs : List View) (id : ℕ) (v : View) → get_elem? vs id ≡ some v
    → EachSeat (λ v. v.weight ≡ 0 → f v ≡ 0) vs → total weight_of vs ≡ v.weight → total f vs ≡ f v
total_alone f [] id v at h e = absurd (some-ne-none v (sym at))
total_alone f (x ∷ xs) zero v at h e =
    let same : f x ≡ f v = ap f (some-injective x v at) in
    let heavy : x.weight ≡ v.weight = ap weight_of (some-injective x v at) in
    let rest = total_none f xs (λ id u there. h (suc id) u there) (omega arith) in omega arith
total_alone f (x ∷ xs) (suc id) v at h e =
    let most = total_at weight_of xs id v at in
    let light : x.weight ≡ 0 = omega arith in
    let none : f x ≡ 0 = h 0 x refl light in
    let rest = total_alone f xs id v at (λ k u there. h (suc k) u there) (omega arith) in omega arith

-- an exhausted seat counts with no more than its weight
pub exhausted_at_most : (v : View) → exhausted_weight v ≤ v.weight
exhausted_at_most v = go v.exhausted v.weight
  where
    go : (b : Bool) (n : ℕ) → number_if b n ≤ n
    go true n = omega arith
    go false n = omega arith
