-- What a pass over extents by their first replies keeps.
use Rattle.std.proofs.Common.{◌≡◌, ℕ, zero, suc, ◌<◌, ◌≤◌, ◌+◌, List, [], ◌∷◌, get_or, length, slice_get}
use Rattle.std.proofs.Common.{Some, inl, inr, sym, ap, subst, ◌∙◌, arith}
use Rattle.std.proofs.lemmas.Bool.{cases_lt, cases_order}
use Rattle.history_model.specs.Lists.{In, Before}
use Rattle.history_model.proofs.Lists.{slice_get-In}
use Rattle.reg_levels.proofs.ClusterLemmas.Pushes.{get-below, get-read}
use Rattle.reg_levels.specs.Gap.Extents.{NoneCollide, NoneCollideBelow, ArePassed, AreRising, Collide}
use Rattle.reg_levels.specs.Gap.Extents.{IsCollision}
use Rattle.reg_levels.specs.Gap.Extents.{IsFirstLeft, threshold}
use Rattle.reg_levels.specs.declared.gap.extent.Extent.{Extent}

-- what code reads where nothing stands
abbrev pub no_extent : Extent
no_extent = record { first_reply = 0; write_call = 0; last_call = 0; cluster = 0 }

-- what code reads where something stands
pub get-is : {X : Type 0} (xs : List X) (i : ℕ) (x d : X) → slice_get xs i ≡ Some x → get_or xs i d ≡ x
get-is [] i x d h = absurd (cc h)
get-is (y ∷ xs) zero x d h = cc h
get-is (y ∷ xs) (suc i) x d h = get-is xs i x d h

-- what code read at a place where something stands
pub read-at : {X : Type 0} (xs : List X) (i : ℕ) (x y : X) → slice_get xs i ≡ Some y → x ≡ get_or xs i x
    → slice_get xs i ≡ Some x
read-at xs i x y h e = h ∙ ap Some (sym (e ∙ get-is xs i y x h))

-- where an element stands
pub get-of : {X : Type 0} (xs : List X) (x : X) → In x xs → (i : ℕ) × (slice_get xs i ≡ Some x)
get-of [] x i = absurd i
get-of (y ∷ xs) x (inl e) = (zero, ap Some (sym e))
get-of (y ∷ xs) x (inr i) = let r = get-of xs x i in (suc r.0, r.1)

pub slice_get-Before : {X : Type 0} (xs : List X) (i j : ℕ) (x y : X) → i < j → slice_get xs i ≡ Some x
    → slice_get xs j ≡ Some y → Before x y xs
slice_get-Before [] i j x y l h k = absurd (cc h)
slice_get-Before (z ∷ xs) i zero x y l h k = absurd (omega arith)
slice_get-Before (z ∷ xs) zero (suc j) x y l h k = inl (cc h, slice_get-In xs j y k)
slice_get-Before (z ∷ xs) (suc i) (suc j) x y l h k = inr (slice_get-Before xs i j x y (omega arith) h k)

module _ (age : ℕ) (xs : List Extent) (up : AreRising xs) where
  pub passed-later : (n m : ℕ) → ArePassed age xs n m → ArePassed age xs n (m + 1)
  passed-later n m p i j x y l r h k = p i j x y l (omega arith) h k

  -- the first that is left before m is the one at m, or collides with it if anything does
  pub apart-more : (n m : ℕ) → n ≤ m → m < length xs → ArePassed age xs n m → NoneCollideBelow age xs m
      → (n < m → threshold age (get_or xs m no_extent) ≤ (get_or xs n no_extent).first_reply)
      → NoneCollideBelow age xs (m + 1)
  apart-more n m le in_xs p a free i j x y l b h k c = elim (cases_lt j m) [
    | inl lt ↦ a i j x y l lt h k c
    | inr ge ↦
        let jm : m ≡ j = omega arith in
        let km : slice_get xs m ≡ Some y = ap (slice_get xs) jm ∙ k in
        let ym : threshold age (get_or xs m no_extent) ≡ threshold age y =
        ap (threshold age) (get-is xs m y no_extent km) in
        elim (cases_lt i n) [
          | inl lt ↦ let t = p i j x y lt ge h k in omega (arith, t, c.1)
          | inr ni ↦
              let f = free (omega arith) in
              elim (cases_order n i) [
                | inl e ↦
                    let d : get_or xs n no_extent ≡ x = get-is xs n x no_extent (ap (slice_get xs) e ∙ h) in
                    let r = ap (λ (z : Extent). z.first_reply) d in
                    omega (arith, r, f, ym, c.0)
                | inr s ↦ elim s [
                  | inl q ↦
                      let d = up n i (get_or xs n no_extent) x q (get-read xs n no_extent (omega arith)) h in
                      omega (arith, d, f, ym, c.0)
                  | inr q ↦ absurd (omega arith)
                ]
              ]
        ]
  ]

  pub collided : (n m : ℕ) → n < m → m < length xs → IsFirstLeft age xs n m
      → (get_or xs n no_extent).first_reply < threshold age (get_or xs m no_extent) → IsCollision age xs n m
  collided n m l b left c = record {
    order = l;
    left = get_or xs n no_extent;
    right = get_or xs m no_extent;
    at_left = get-read xs n no_extent (omega arith);
    at_right = get-read xs m no_extent b;
    collide = (
      c,
      left (get_or xs n no_extent) (get_or xs m no_extent) l (get-read xs n no_extent (omega arith))
          (get-read xs m no_extent b),
    );
  }

  pub apart-all : NoneCollideBelow age xs (length xs) → NoneCollide age xs
  apart-all a i j x y l h k c = a i j x y l (get-below xs y j k) h k c

-- two can't collide and be apart at one age
pub collision-apart : (xs : List Extent) (age end i j : ℕ) → IsCollision age xs i j → NoneCollide end xs
    → age ≡ end → ⊥
collision-apart xs age end i j k a e =
    a i j k.left k.right k.order k.at_left k.at_right
    (subst (λ n. Collide n k.left k.right) e k.collide)
