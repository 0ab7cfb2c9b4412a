-- What stands in a list after a push.
use Rattle.std.proofs.Common.{◌≡◌, ℕ, zero, suc, ◌+◌, ◌<◌, List, [], ◌∷◌, ◌++◌, length, slice_get, Some}
use Rattle.std.proofs.Common.{◌⊎◌, inl, inr, refl, ap, arith, get_or, length-append}

pub length-push : {X : Type 0} (xs : List X) (x : X) → length (xs ++ x ∷ []) ≡ length xs + 1
length-push xs x = omega (arith, length-append xs (x ∷ []))

-- what stands in a list stands there after a push
pub get-push : {X : Type 0} (xs : List X) (x z : X) (i : ℕ) → slice_get xs i ≡ Some z
    → slice_get (xs ++ x ∷ []) i ≡ Some z
get-push [] x z i e = absurd (cc e)
get-push (y ∷ ys) x z zero e = e
get-push (y ∷ ys) x z (suc i) e = get-push ys x z i e

-- what stands there after a push stood there, or is what was pushed
pub get-push_cases : {X : Type 0} (xs : List X) (x z : X) (i : ℕ) → slice_get (xs ++ x ∷ []) i ≡ Some z
    → (slice_get xs i ≡ Some z) ⊎ ((i ≡ length xs) × (x ≡ z))
get-push_cases [] x z zero e = inr (refl, cc e)
get-push_cases [] x z (suc i) e = absurd (cc e)
get-push_cases (y ∷ ys) x z zero e = inl e
get-push_cases (y ∷ ys) x z (suc i) e = elim (get-push_cases ys x z i e) [
  | inl h ↦ inl h
  | inr h ↦ inr (ap suc h.0, h.1)
]

pub get-below : {X : Type 0} (xs : List X) (x : X) (i : ℕ) → slice_get xs i ≡ Some x → i < length xs
get-below [] x i e = absurd (cc e)
get-below (y ∷ ys) x zero e = omega arith
get-below (y ∷ ys) x (suc i) e = omega (arith, get-below ys x i e)

-- what code reads at a place
pub get-read : {X : Type 0} (xs : List X) (i : ℕ) (d : X) → i < length xs
    → slice_get xs i ≡ Some (get_or xs i d)
get-read [] i d l = absurd (omega arith)
get-read (x ∷ xs) zero d l = refl
get-read (x ∷ xs) (suc i) d l = get-read xs i d (omega arith)
