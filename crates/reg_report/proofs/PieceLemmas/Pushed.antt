-- A list with one item more behind it.
use Rattle.std.proofs.Common.{◌≡◌, ℕ, zero, suc, List, [], ◌∷◌, ◌++◌, length}
use Rattle.std.proofs.Common.{slice_get, Some, ◌⊎◌, inl, inr, refl, ap}

pub push-cases : {X : Type 0} (xs : List X) (y z : X) (i : ℕ) → slice_get (xs ++ y ∷ []) i ≡ Some z
    → (slice_get xs i ≡ Some z) ⊎ ((i ≡ length xs) × (y ≡ z))
push-cases [] y z zero h = inr (refl, let q : y ≡ z = cc (h) in q)
push-cases [] y z (suc i) h = absurd (cc (h))
push-cases (x ∷ xs) y z zero h = inl h
push-cases (x ∷ xs) y z (suc i) h =
    elim (push-cases xs y z i h) [ inl k ↦ inl k | inr k ↦ inr (ap suc k.0, k.1) ]

pub front-get : {X : Type 0} (xs ys : List X) (i : ℕ) (x : X) → slice_get xs i ≡ Some x
    → slice_get (xs ++ ys) i ≡ Some x
front-get [] ys i x e = absurd (cc e)
front-get (y ∷ xs) ys zero x e = e
front-get (y ∷ xs) ys (suc i) x e = front-get xs ys i x e
