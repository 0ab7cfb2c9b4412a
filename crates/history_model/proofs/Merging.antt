-- Placed operations of each register, merged by their points.
use Rattle.std.proofs.Common.{◌≡◌, ℕ, zero, suc, ◌+◌, ◌<◌, ◌≤◌, ◌==◌, not, Bool, true, false, List}
use Rattle.std.proofs.Common.{[], ◌∷◌, length, ◌⊎◌, inl, inr, refl, sym, ap, subst, ◌∙◌, arith}
use Rattle.std.proofs.lemmas.Bool.{cases_lt, cases_order, cases_Bool, eqb-true, eq-eqb}
use Rattle.std.proofs.lemmas.Bool.Decides.{nat_tests}
use Rattle.std.specs.List.{filter}
use Rattle.history_model.specs.Lists.{In, Before}
use Rattle.history_model.proofs.Lists.{In-filter}
use Rattle.history_model.specs.Placed.{PlacedOperation}
use Rattle.history_model.proofs.Filters.{filter-pass, filter-fail, filter-all, filter-none, filter-filter}

abbrev AreRising : List PlacedOperation → Type 0
AreRising xs = (x y : PlacedOperation) → Before x y xs → x.point ≤ y.point

-- zs has xs, which pass the test, and ys, which don't, each as they stand
record IsMerge (p : PlacedOperation → Bool) (xs ys zs : List PlacedOperation) : Type 0 where
  rising : AreRising zs
  passing : filter p zs ≡ xs
  failing : filter (λ x. not (p x)) zs ≡ ys

module _ (p : PlacedOperation → Bool) where
  fails : (x : PlacedOperation) → p x ≡ false → not (p x) ≡ true
  fails x e = ap not e

  passes : (x : PlacedOperation) → p x ≡ true → not (p x) ≡ false
  passes x e = ap not e

  merge-In : (xs ys zs : List PlacedOperation) → IsMerge p xs ys zs → (z : PlacedOperation) → In z zs
      → In z xs ⊎ In z ys
  merge-In xs ys zs m z i = elim (cases_Bool (p z)) [
    | inl t ↦ inl (subst (In z) m.passing (In-filter p z zs i t))
    | inr f ↦ inr (subst (In z) m.failing (In-filter (λ x. not (p x)) z zs i (fails z f)))
  ]

  first-passes : (x : PlacedOperation) (xs ys zs : List PlacedOperation) → p x ≡ true
      → ((z : PlacedOperation) → In z xs → x.point ≤ z.point)
      → ((z : PlacedOperation) → In z ys → x.point ≤ z.point) → IsMerge p xs ys zs
      → IsMerge p (x ∷ xs) ys (x ∷ zs)
  first-passes x xs ys zs t low low' m = record {
    rising = λ a b h. elim h [
      | inl k ↦ subst (λ (c : PlacedOperation). c.point ≤ b.point) (sym k.0)
          (elim (merge-In xs ys zs m b k.1) [ inl i ↦ low b i | inr i ↦ low' b i ])
      | inr k ↦ m.rising a b k
    ];
    passing = filter-pass p x zs t ∙ ap (λ l. x ∷ l) m.passing;
    failing = filter-fail (λ y. not (p y)) x zs (passes x t) ∙ m.failing;
  }

  first-fails : (y : PlacedOperation) (xs ys zs : List PlacedOperation) → p y ≡ false
      → ((z : PlacedOperation) → In z xs → y.point ≤ z.point)
      → ((z : PlacedOperation) → In z ys → y.point ≤ z.point) → IsMerge p xs ys zs
      → IsMerge p xs (y ∷ ys) (y ∷ zs)
  first-fails y xs ys zs f low low' m = record {
    rising = λ a b h. elim h [
      | inl k ↦ subst (λ (c : PlacedOperation). c.point ≤ b.point) (sym k.0)
          (elim (merge-In xs ys zs m b k.1) [ inl i ↦ low b i | inr i ↦ low' b i ])
      | inr k ↦ m.rising a b k
    ];
    passing = filter-fail p y zs f ∙ m.passing;
    failing = filter-pass (λ x. not (p x)) y zs (fails y f) ∙ ap (λ l. y ∷ l) m.failing;
  }

  below : (x : PlacedOperation) (xs : List PlacedOperation) → AreRising (x ∷ xs) → (z : PlacedOperation)
      → In z xs → x.point ≤ z.point
  below x xs up z i = up x z (inl (refl, i))

  tail : (x : PlacedOperation) (xs : List PlacedOperation) → AreRising (x ∷ xs) → AreRising xs
  tail x xs up a b h = up a b (inr h)

  merge : (n : ℕ) (xs ys : List PlacedOperation) → length xs + length ys ≤ n
      → ((x : PlacedOperation) → In x xs → p x ≡ true) → ((y : PlacedOperation) → In y ys → p y ≡ false)
      → AreRising xs → AreRising ys → (zs : List PlacedOperation) × IsMerge p xs ys zs
  merge n [] ys l t f up up' = (
    ys,
    record {
      rising = up';
      passing = filter-none p ys f;
      failing = filter-all (λ x. not (p x)) ys (λ y i. fails y (f y i));
    },
  )
  merge n (x ∷ xs) [] l t f up up' = (
    x ∷ xs,
    record {
      rising = up;
      passing = filter-all p (x ∷ xs) t;
      failing = filter-none (λ x. not (p x)) (x ∷ xs) (λ y i. passes y (t y i));
    },
  )
  merge zero (x ∷ xs) (y ∷ ys) l t f up up' = absurd (omega arith)
  merge (suc n) (x ∷ xs) (y ∷ ys) l t f up up' = elim (cases_lt y.point x.point) [
    | inl lt ↦
        let m = merge n (x ∷ xs) ys (omega arith) t (λ z i. f z (inr i)) up (tail y ys up') in (
          y ∷ m.0,
          first-fails y (x ∷ xs) ys m.0 (f y (inl refl)) (λ z i. elim i [
            | inl e ↦ omega (arith, ap (λ (c : PlacedOperation). c.point) e)
            | inr k ↦ omega (arith, below x xs up z k)
          ]) (below y ys up') m.1,
        )
    | inr le ↦
        let m = merge n xs (y ∷ ys) (omega arith) (λ z i. t z (inr i)) f (tail x xs up) up' in (
          x ∷ m.0,
          first-passes x xs (y ∷ ys) m.0 (t x (inl refl)) (below x xs up) (λ z i. elim i [
            | inl e ↦ omega (arith, ap (λ (c : PlacedOperation). c.point) e)
            | inr k ↦ omega (arith, below y ys up' z k)
          ]) m.1,
        )
  ]

abbrev pub is_placed_of : ℕ → PlacedOperation → Bool
is_placed_of r x = x.operation.register == r

-- the lists of the registers below n, merged
pub record AreMerged (orders : ℕ → List PlacedOperation) (n : ℕ) (zs : List PlacedOperation) : Type 0 where
  pub rising : (x y : PlacedOperation) → Before x y zs → x.point ≤ y.point
  pub each : (r : ℕ) → r < n → filter (is_placed_of r) zs ≡ orders r
  pub below : (x : PlacedOperation) → In x zs → x.operation.register < n

module _ (orders : ℕ → List PlacedOperation) (up : (r : ℕ)
    → AreRising (orders r)) (own : (r : ℕ) (x : PlacedOperation) → In x (orders r)
    → x.operation.register ≡ r) where
  other : (n r : ℕ) (x : PlacedOperation) → r < n → is_placed_of r x ≡ true → not (is_placed_of n x) ≡ true
  other n r x lt e = let same = eqb-true x.operation.register r e in grind (arith, nat_tests)

  pub merged : (n : ℕ) → (zs : List PlacedOperation) × AreMerged orders n zs
  merged zero = (
    [],
    record {
      rising = λ x y h. absurd h;
      each = λ r l. absurd (omega arith);
      below = λ x i. absurd i;
    },
  )
  merged (suc n) =
      let rest = merged n in
      let p = is_placed_of n in
      let m =
      merge p (length (orders n) + length rest.0) (orders n) rest.0 (omega arith)
      (λ x i. eq-eqb _ _ (own n x i)) (λ x i. let b = rest.1.below x i in
      grind (arith, nat_tests)) (up n) rest.1.rising in (
        m.0,
        record {
          rising = m.1.rising;
          each = λ r l. elim (cases_order r n) [
            | inl e ↦ subst (λ k. filter (is_placed_of k) m.0 ≡ orders k) (sym e) m.1.passing
            | inr c ↦ elim c [
              | inl b ↦ sym (filter-filter (is_placed_of r) (λ x. not (is_placed_of n x)) m.0
                  (λ x. other n r x b)) ∙ (ap (filter (is_placed_of r)) m.1.failing ∙ rest.1.each r b)
              | inr g ↦ absurd (omega arith)
            ]
          ];
          below =
              λ x i. elim (merge-In p (orders n) rest.0 m.0 m.1 x i) [
                | inl k ↦ omega (arith, own n x k)
                | inr k ↦ omega (arith, rest.1.below x k)
              ];
        },
      )
