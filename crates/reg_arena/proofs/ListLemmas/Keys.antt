-- The elements of an index set (not the key of the hashes): the place of one, and one key more.
use Rattle.std.proofs.Common.{◌≡◌, ℕ, zero, suc, ◌+◌, ◌<◌, ◌≤◌, cond, nat_lt, eqb, not}
use Rattle.std.proofs.Common.{slice_get, Bool, true, false, ◌||◌, List, [], ◌∷◌, ◌++◌, length}
use Rattle.std.proofs.Common.{Some, None, refl, sym, ap, ◌∙◌, arith, length-append}
use Rattle.std.specs.Prelude.{if◌then◌else◌}
use Rattle.std.specs.List.{position, position_or_len, list_any}
use Rattle.std.proofs.lemmas.Bool.{ltb-true, ltb-false, eqb-true, eqb-false}
use Rattle.std.proofs.lemmas.List.Folds.{position_or_len_push}

pub place-within : {X : Type 0} (p : X → Bool) (xs : List X) → position_or_len p xs ≤ length xs
place-within p [] = omega arith
place-within p (x ∷ xs) = go (p x) (place-within p xs)
  where
    go : (b : Bool) → position_or_len p xs ≤ length xs
        → cond (not b) (1 + position_or_len p xs) 0 ≤ length (x ∷ xs)
    go true l = omega arith
    go false l = omega arith

pub place-none : {X : Type 0} (p : X → Bool) (xs : List X) → None ≡ position p xs
    → position_or_len p xs ≡ length xs
place-none p xs h = go (nat_lt (position_or_len p xs) (length xs)) refl h
  where
    go : (b : Bool) → nat_lt (position_or_len p xs) (length xs) ≡ b
        → None ≡ cond b (Some (position_or_len p xs)) None → position_or_len p xs ≡ length xs
    go true q h = absurd (cc (h))
    go false q h = omega (arith, ltb-false (position_or_len p xs) (length xs) q, place-within p xs)

pub place-some : {X : Type 0} (p : X → Bool) (xs : List X) (i : ℕ) → Some i ≡ position p xs
    → (position_or_len p xs ≡ i) × (i < length xs)
place-some p xs i h = go (nat_lt (position_or_len p xs) (length xs)) refl h
  where
    go : (b : Bool) → nat_lt (position_or_len p xs) (length xs) ≡ b
        → Some i ≡ cond b (Some (position_or_len p xs)) None → (position_or_len p xs ≡ i) × (i < length xs)
    go true q h =
        let e : i ≡ position_or_len p xs =
        cc (h) in (sym e, omega (arith, e, ltb-true (position_or_len p xs) (length xs) q))
    go false q h = absurd (cc (h))

-- a key that no place has is new
pub any-past : {X : Type 0} (p : X → Bool) (xs : List X) → position_or_len p xs ≡ length xs
    → list_any p xs ≡ false
any-past p [] h = refl
any-past p (x ∷ xs) h = go (p x) h (any-past p xs)
  where
    go : (b : Bool) → cond (not b) (1 + position_or_len p xs) 0 ≡ length (x ∷ xs)
        → (position_or_len p xs ≡ length xs → list_any p xs ≡ false) → (b || list_any p xs) ≡ false
    go true h f = absurd (omega (arith, h))
    go false h f = f (omega (arith, h))

pub added-last : {X : Type 0} (p : X → Bool) (xs : List X) (x : X) → position_or_len p xs ≡ length xs
    → (if list_any p xs then xs else xs ++ x ∷ []) ≡ xs ++ x ∷ []
added-last p xs x h = ap (λ b. if b then xs else xs ++ x ∷ []) (any-past p xs h)

-- a key that no place has stands nowhere
pub place-never : {X : Type 0} (p : X → Bool) (xs : List X) (n : ℕ) (x : X) → position_or_len p xs ≡ length xs
    → slice_get xs n ≡ Some x → p x ≡ true → ⊥
place-never p [] n x h at is = cc (at)
place-never {X} p (y ∷ xs) n x h at is =
    go (p y) refl h n at (λ m rest there. place-never p xs m x rest there is)
  where
    go : (b : Bool) → p y ≡ b → cond (not b) (1 + position_or_len p xs) 0 ≡ length (y ∷ xs) → (m : ℕ)
        → slice_get (y ∷ xs) m ≡ Some x
        → ((m : ℕ) → position_or_len p xs ≡ length xs → slice_get xs m ≡ Some x → ⊥) → ⊥
    go true q h m at below = absurd (omega (arith, h))
    go false q h zero at below =
        let same : y ≡ x = cc (at) in absurd (let same_test = ap p same in cc (q, is, same_test))
    go false q h (suc m) at below = below m (omega (arith, h)) at

-- ---- the place of a key by a test, where there is one

-- what stands at the place passes the test
pub place-at : {X : Type 0} (p : X → Bool) (xs : List X) → position_or_len p xs < length xs
    → (x : X) × (slice_get xs (position_or_len p xs) ≡ Some x) × (p x ≡ true)
place-at p [] l = absurd (omega arith)
place-at {X} p (x ∷ xs) l = go (p x) refl l (place-at p xs)
  where
    go : (b : Bool) → p x ≡ b → cond (not b) (1 + position_or_len p xs) 0 < length (x ∷ xs)
        → (position_or_len p xs < length xs → (y : X) × (slice_get xs (position_or_len p xs) ≡ Some y)
        × (p y ≡ true))
        → (y : X) × (slice_get (x ∷ xs) (cond (not b) (1 + position_or_len p xs) 0) ≡ Some y) × (p y ≡ true)
    go true q l f = (x, refl, q)
    go false q l f =
        let r = f (omega (arith, l)) in
        let e : 1 + position_or_len p xs ≡ suc (position_or_len p xs) = omega arith in
        (r.0, ap (slice_get (x ∷ xs)) e ∙ r.1, r.2)

pub position-at : {X : Type 0} (p : X → Bool) (xs : List X) (i : ℕ) → position p xs ≡ Some i
    → (x : X) × (slice_get xs i ≡ Some x) × (p x ≡ true)
position-at p xs i h =
    let s = place-some p xs i (sym h) in
    let r = place-at p xs (omega (arith, s.0, s.1)) in
    (r.0, ap (slice_get xs) (sym s.0) ∙ r.1, r.2)

position-is : {X : Type 0} (p : X → Bool) (xs : List X) (i : ℕ) → position_or_len p xs ≡ i → i < length xs
    → position p xs ≡ Some i
position-is p xs i q l = go (nat_lt (position_or_len p xs) (length xs)) refl
  where
    go : (b : Bool) → nat_lt (position_or_len p xs) (length xs) ≡ b
        → cond b (Some (position_or_len p xs)) None ≡ Some i
    go true d = ap Some q
    go false d = absurd (omega (arith, ltb-false (position_or_len p xs) (length xs) d, q, l))

position-past : {X : Type 0} (p : X → Bool) (xs : List X) → position_or_len p xs ≡ length xs
    → position p xs ≡ None
position-past p xs q = go (nat_lt (position_or_len p xs) (length xs)) refl
  where
    go : (b : Bool) → nat_lt (position_or_len p xs) (length xs) ≡ b
        → cond b (Some (position_or_len p xs)) None ≡ None
    go true d = absurd (omega (arith, ltb-true (position_or_len p xs) (length xs) d, q))
    go false d = refl

-- a place stays where a key is added
pub position-kept : {X : Type 0} (p : X → Bool) (xs : List X) (y : X) (i : ℕ) → position p xs ≡ Some i
    → position p (xs ++ y ∷ []) ≡ Some i
position-kept p xs y i h =
    let s = place-some p xs i (sym h) in
    position-is p (xs ++ y ∷ []) i (position_or_len_push p xs y
    ∙ (go (eqb (position_or_len p xs) (length xs)) refl ∙ s.0)) (omega (
      arith,
      s.1,
      length-append xs (y ∷ []),
    ))
  where
    go : (b : Bool) → eqb (position_or_len p xs) (length xs) ≡ b
        → cond b (length xs + cond (p y) 0 1) (position_or_len p xs) ≡ position_or_len p xs
    go true d =
        let s =
        place-some p xs i (sym h) in
        absurd (omega (arith, eqb-true (position_or_len p xs) (length xs) d, s.0, s.1))
    go false d = refl

past-push : {X : Type 0} (p : X → Bool) (xs : List X) (y : X) → position p xs ≡ None
    → position_or_len p (xs ++ y ∷ []) ≡ length xs + cond (p y) 0 1
past-push p xs y h = position_or_len_push p xs y ∙ go (eqb (position_or_len p xs) (length xs)) refl
  where
    go : (b : Bool) → eqb (position_or_len p xs) (length xs) ≡ b
        → cond b (length xs + cond (p y) 0 1) (position_or_len p xs) ≡ length xs + cond (p y) 0 1
    go true d = refl
    go false d = absurd (eqb-false (position_or_len p xs) (length xs) d (place-none p xs (sym h)))

-- the added key has the last place
pub position-new : {X : Type 0} (p : X → Bool) (xs : List X) (y : X) → position p xs ≡ None → p y ≡ true
    → position p (xs ++ y ∷ []) ≡ Some (length xs)
position-new p xs y h q =
    let e = past-push p xs y h ∙ ap (λ b. length xs + cond b 0 1) q in
    position-is p (xs ++ y ∷ []) (length xs) (omega (arith, e)) (omega (arith, length-append xs (y ∷ [])))

pub position-absent : {X : Type 0} (p : X → Bool) (xs : List X) (y : X) → position p xs ≡ None → p y ≡ false
    → position p (xs ++ y ∷ []) ≡ None
position-absent p xs y h q =
    let e = past-push p xs y h ∙ ap (λ b. length xs + cond b 0 1) q in
    position-past p (xs ++ y ∷ []) (omega (arith, e, length-append xs (y ∷ [])))
