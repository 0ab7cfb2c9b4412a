-- What can be explained from some open calls can be from others that owe no more and have all that changes
-- anything.
use Rattle.std.proofs.Common.{◌≡◌, ℕ, suc, true, List, [], ◌∷◌, ◌⊎◌, inl, inr, ap, subst, ◌∙◌}
use Rattle.configurations.specs.declared.op.Op.{Op}
use Rattle.configurations.specs.declared.moment.Moment.{Moment}
use Rattle.configurations.specs.declared.moment.Moment.TheVariants.{Call, Reply}
use Rattle.history_model.specs.Lists.{In}
use Rattle.configurations.specs.Ops.{fits_at, left_at}
use Rattle.configurations.specs.Runs.{AliveBy, AliveFree, at_once, by_one, over_free}
use Rattle.configurations.specs.Runs.{called_free, replied_free, uses, without}
use Rattle.configurations.proofs.Lists.{without-In, In-without, In-or}

-- the call leaves each value as it is
abbrev pub IsIdle : List Op → ℕ → Type 0
IsIdle ops j = (v : ℕ) → left_at ops j v ≡ v

-- What p and f can do, q and g can: they owe no more, and have all that isn't idle.
pub record IsAsFree (ops : List Op) (p f q g : List ℕ) : Type 0 where
  pub owes : (j : ℕ) → In j q → In j p
  pub keeps : (j : ℕ) → In j p → (In j q ⊎ In j g) ⊎ IsIdle ops j
  pub has : (j : ℕ) → In j f → In j g ⊎ IsIdle ops j

module _ (ops : List Op) where
  pub place_or : (j : ℕ) (q g : List ℕ) → (In j q ⊎ In j g) ⊎ ((In j q ⊎ In j g) → ⊥)
  place_or j q g = elim (In-or j q) [
    | inl a ↦ inl (inl a)
    | inr n ↦ elim (In-or j g) [
      | inl a ↦ inl (inr a)
      | inr m ↦ inr (λ h. elim h [ inl a ↦ n a | inr a ↦ m a ])
    ]
  ]

  -- where x is, it still is once another call has left or has come
  pub still_placed : (j x : ℕ) (q g : List ℕ) → (x ≡ j → ⊥) → In x q ⊎ In x g
      → In x (without j q) ⊎ In x (without j g)
  still_placed j x q g n h = elim h [
    | inl a ↦ inl (In-without j x q a n)
    | inr a ↦ inr (In-without j x g a n)
  ]

  pub one_more : (k x : ℕ) (q g : List ℕ) → In x q ⊎ In x g → In x (k ∷ q) ⊎ In x g
  one_more k x q g h = elim h [ inl a ↦ inl (inr a) | inr a ↦ inr a ]

  -- and after the reply of a call that it isn't
  pub replied_placed : (k x : ℕ) (q g : List ℕ) → (x ≡ k → ⊥) → In x q ⊎ In x g → In x q ⊎ In x (without k g)
  replied_placed k x q g n h = elim h [ inl a ↦ inl a | inr a ↦ inr (In-without k x g a n) ]

  -- ---- by how many calls before the reply

  pub counted : (es : List Moment) (s : ℕ) (p f : List ℕ) (k : ℕ) → AliveFree ops s p f (Reply k ∷ es)
      → (n : ℕ) × AliveBy ops k es n s p f
  counted es s p f k (replied_free n r) = (0, at_once n r)
  counted es s p f k (uses j i z r) =
      let c = counted es (left_at ops j s) (without j p) (without j f) k r in
      (suc c.0, by_one j i z c.1)

  pub uncounted : (es : List Moment) (k n s : ℕ) (p f : List ℕ) → AliveBy ops k es n s p f
      → AliveFree ops s p f (Reply k ∷ es)
  uncounted es k n s p f (at_once m r) = replied_free m r
  uncounted es k (suc n) s p f (by_one j i z r) =
      uses j i z (uncounted es k n (left_at ops j s) (without j p) (without j f) r)

  pub by_more : (es : List Moment) (k n s : ℕ) (p f : List ℕ) → AliveBy ops k es n s p f
      → AliveBy ops k es (suc n) s p f
  by_more es k n s p f (at_once m r) = at_once m r
  by_more es k (suc n) s p f (by_one j i z r) =
      by_one j i z (by_more es k n (left_at ops j s) (without j p) (without j f) r)

  -- whatever can be explained from p and f, at a value, can be from q and g at an equal one
  abbrev pub Follows : (List ℕ → List ℕ → List ℕ → List ℕ → Type 0) → List Moment → Type 0
  Follows Fit es = (s t : ℕ) (p f q g : List ℕ) → s ≡ t → Fit p f q g → AliveFree ops s p f es
      → AliveFree ops t q g es

  -- the same before the reply of k, by no more calls
  abbrev pub FollowsBy : (List ℕ → List ℕ → List ℕ → List ℕ → Type 0) → ℕ → List Moment → Type 0
  FollowsBy Fit k es = (n s t : ℕ) (p f q g : List ℕ) → s ≡ t → Fit p f q g → AliveBy ops k es n s p f
      → AliveBy ops k es n t q g

  -- ---- what can be done by who owes no more

  as_free_before : (k : ℕ) (es : List Moment) → Follows (IsAsFree ops) es → FollowsBy (IsAsFree ops) k es
  as_free_before k es rest n s t p f q g e w (at_once m r) = at_once (λ i. m (w.owes k i))
      (rest s t p (without k f) q (without k g) e (record {
        owes = w.owes;
        keeps = λ j i. elim (w.keeps j i) [
          | inl b ↦ inl (replied_placed k j q g (λ z. m (subst (λ x. In x p) z i)) b)
          | inr b ↦ inr b
        ];
        has = λ j i.
            let a = without-In k j f i in
            elim (w.has j a.0) [ inl b ↦ inl (In-without k j g b a.1) | inr b ↦ inr b ];
      }) r)
  as_free_before k es rest (suc n) s t p f q g e w (by_one j i z r) = elim (place_or j q g) [
    | inl h ↦
        let now = left_at ops j in
        by_one j h (subst (λ x. fits_at ops j x ≡ true) e z)
        (as_free_before k es rest n (now s) (now t) (without j p) (without j f) (without j q) (without j g)
        (ap now e) (record {
          owes = λ x a. let b = without-In j x q a in In-without j x p (w.owes x b.0) b.1;
          keeps = λ x a.
              let b = without-In j x p a in
              elim (w.keeps x b.0) [
                | inl c ↦ inl (still_placed j x q g b.1 c)
                | inr c ↦ inr c
              ];
          has = λ x a.
              let b = without-In j x f a in
              elim (w.has x b.0) [ inl c ↦ inl (In-without j x g c b.1) | inr c ↦ inr c ];
        }) r)
    | inr m ↦
        let idle : IsIdle ops j = elim i [
          | inl a ↦ elim (w.keeps j a) [ inl b ↦ absurd (m b) | inr b ↦ b ]
          | inr a ↦ elim (w.has j a) [ inl b ↦ absurd (m (inr b)) | inr b ↦ b ]
        ] in
        by_more es k n t q g
        (as_free_before k es rest n (left_at ops j s) t (without j p) (without j f) q g (idle s ∙ e) (record {
          owes = λ x a. In-without j x p (w.owes x a) (λ y. m (inl (subst (λ u. In u q) y a)));
          keeps = λ x a. w.keeps x (without-In j x p a).0;
          has = λ x a. w.has x (without-In j x f a).0;
        }) r)
  ]

  pub as_free : (es : List Moment) → Follows (IsAsFree ops) es
  as_free [] s t p f q g e w over_free = over_free
  as_free (Call k ∷ es) s t p f q g e w (called_free r) =
      called_free (as_free es s t (k ∷ p) f (k ∷ q) g e (record {
        owes = λ j i. elim i [ inl a ↦ inl a | inr a ↦ inr (w.owes j a) ];
        keeps = λ j i. elim i [
          | inl a ↦ inl (inl (inl a))
          | inr a ↦ elim (w.keeps j a) [ inl b ↦ inl (one_more k j q g b) | inr b ↦ inr b ]
        ];
        has = w.has;
      }) r)
  as_free (Reply k ∷ es) s t p f q g e w r =
      let c = counted es s p f k r in
      uncounted es k c.0 t q g (as_free_before k es (as_free es) c.0 s t p f q g e w c.1)

  pub as_free_by : (es : List Moment) (k : ℕ) → FollowsBy (IsAsFree ops) k es
  as_free_by es k = as_free_before k es (as_free es)
