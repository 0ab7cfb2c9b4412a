-- Two lists whose elements fit one another, place by place.
use Rattle.std.proofs.Common.{◌≡◌, ℕ, zero, suc, List, [], ◌∷◌, ◌++◌, map}
use Rattle.std.proofs.Common.{length, slice_get, Some, ap, subst, refl}
use Rattle.std.specs.List.{AllZip}

pub zip-join : {A B : Type 0} (R : A → B → Type 0) (xs us : List A) (ys vs : List B) → AllZip R xs ys
    → AllZip R us vs → AllZip R (xs ++ us) (ys ++ vs)
zip-join R [] us [] vs h k = k
zip-join R [] us (y ∷ ys) vs h k = elim h [ ]
zip-join R (x ∷ xs) us [] vs h k = elim h [ ]
zip-join R (x ∷ xs) us (y ∷ ys) vs h k = (h.0, zip-join R xs us ys vs h.1 k)

pub zip-map : {A B : Type 0} (R S : A → B → Type 0) (f : A → A) (xs : List A) (ys : List B)
    → ((x : A) (y : B) → R x y → S (f x) y) → AllZip R xs ys → AllZip S (map f xs) ys
zip-map R S f [] [] g h = h
zip-map R S f [] (y ∷ ys) g h = elim h [ ]
zip-map R S f (x ∷ xs) [] g h = elim h [ ]
zip-map R S f (x ∷ xs) (y ∷ ys) g h = (g x y h.0, zip-map R S f xs ys g h.1)

pub zip-weaker : {A B : Type 0} (R S : A → B → Type 0) (xs : List A) (ys : List B)
    → ((x : A) (y : B) → R x y → S x y) → AllZip R xs ys → AllZip S xs ys
zip-weaker R S [] [] g h = h
zip-weaker R S [] (y ∷ ys) g h = elim h [ ]
zip-weaker R S (x ∷ xs) [] g h = elim h [ ]
zip-weaker R S (x ∷ xs) (y ∷ ys) g h = (g x y h.0, zip-weaker R S xs ys g h.1)

pub zip-length : {A B : Type 0} (R : A → B → Type 0) (xs : List A) (ys : List B) → AllZip R xs ys
    → length xs ≡ length ys
zip-length R [] [] h = refl
zip-length R [] (y ∷ ys) h = elim h [ ]
zip-length R (x ∷ xs) [] h = elim h [ ]
zip-length R (x ∷ xs) (y ∷ ys) h = ap suc (zip-length R xs ys h.1)

-- the elements of one place
pub zip-at : {A B : Type 0} (R : A → B → Type 0) (xs : List A) (ys : List B) (i : ℕ) (x : A) → AllZip R xs ys
    → slice_get xs i ≡ Some x → (y : B) × (slice_get ys i ≡ Some y) × R x y
zip-at R [] ys i x h at = absurd (cc (at))
zip-at R (z ∷ xs) [] i x h at = elim h [ ]
zip-at R (z ∷ xs) (y ∷ ys) zero x h at = let q : z ≡ x = cc (at) in (y, refl, subst (λ w. R w y) q h.0)
zip-at R (z ∷ xs) (y ∷ ys) (suc i) x h at = zip-at R xs ys i x h.1 at
