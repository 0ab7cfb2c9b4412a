-- Writes that nobody sees: a call that is free may stay out of sight, and only changes that somebody asks for
-- need to be tried.
use Rattle.std.proofs.Common.{◌≡◌, ℕ, suc, ◌==◌, ◌&&◌, not, cond, Bool, true, false, List, [], ◌∷◌, ◌++◌}
use Rattle.std.proofs.Common.{◌⊎◌, inl, inr, refl, sym, ap, subst, ◌∙◌, slice_get, Option, Some, None, arith}
use Rattle.std.proofs.lemmas.Bool.{false≢true, cases_Bool}
use Rattle.std.proofs.lemmas.Bool.Decides.{nat_tests}
use Rattle.configurations.specs.declared.op.Op.{Op}
use Rattle.configurations.specs.declared.op.Kind.{Kind}
use Rattle.configurations.specs.declared.op.Kind.TheVariants.{Read, Write, Cas, CasUnless, Miss}
use Rattle.configurations.specs.declared.moment.Moment.{Moment}
use Rattle.configurations.specs.declared.moment.Moment.TheVariants.{Call, Reply}
use Rattle.history_model.specs.Lists.{In}
use Rattle.configurations.specs.Ops.{fits_at, left_at, option_fits, option_left_by, kind_fits}
use Rattle.configurations.specs.Ops.{kind_leaves, writes_at, option_writes, kind_writes, asks_at}
use Rattle.configurations.specs.Runs.{AliveBy, AliveFree, at_once, by_one}
use Rattle.configurations.specs.Runs.{over_free, called_free, uses, without}
use Rattle.configurations.specs.Use.{IsOfUse, IsAsked, open_after, free_after, stays, kept, freed}
use Rattle.history_model.proofs.Lists.{In-filter, filter-In, In-left, In-right, append-In}
use Rattle.configurations.proofs.Lists.{without-In, In-without, In-or, same_or}
use Rattle.configurations.proofs.AsFree.{as_free, as_free_by, by_more}

module _ (ops : List Op) where
  -- ---- a call may take effect later

  delay_free : (es : List Moment) (s : ℕ) (p f : List ℕ) (j : ℕ) → In j p ⊎ In j f → fits_at ops j s ≡ true
      → (In (Call j) es → ⊥) → AliveFree ops (left_at ops j s) (without j p) (without j f) es
      → AliveFree ops s p f es
  delay_free [] s p f j i z n r = over_free
  delay_free (Call k ∷ es) s p f j i z n (called_free r) =
      called_free (delay_free es s (k ∷ p) f j (elim i [ inl a ↦ inl (inr a) | inr a ↦ inr a ]) z
      (λ c. n (inr c))
      (as_free ops es (left_at ops j s) (left_at ops j s) (k ∷ without j p) (without j f)
      (without j (k ∷ p)) (without j f) refl (record {
        owes = λ x a.
            let b = without-In j x (k ∷ p) a in
            elim b.0 [ inl e ↦ inl e | inr h ↦ inr (In-without j x p h b.1) ];
        keeps = λ x a. elim a [
          | inl e ↦ inl (inl (In-without j x (k ∷ p) (inl e) (λ y. n (inl (ap Call (sym y ∙ e))))))
          | inr h ↦ let b = without-In j x p h in inl (inl (In-without j x (k ∷ p) (inr b.0) b.1))
        ];
        has = λ x a. inl a;
      }) r))
  delay_free (Reply k ∷ es) s p f j i z n r = uses j i z r

  -- at the reply of a call that isn't owed, it is dropped, or it must take effect before
  pub settled_by : (es : List Moment) (k n s : ℕ) (p f : List ℕ) → (In k p → ⊥)
      → ((x : ℕ) → In x p ⊎ In x f → In (Call x) es → ⊥) → AliveBy ops k es n s p f
      → AliveFree ops s p (without k f) es ⊎ (In k f × AliveBy ops k es n s (k ∷ p) (without k f))
  settled_by es k n s p f not_owed ahead (at_once m r) = inl r
  settled_by es k (suc n) s p f not_owed ahead (by_one i h z r) = elim (same_or i k) [
    | inl e ↦
        let kf : In k f = elim h [
          | inl a ↦ absurd (not_owed (subst (λ x. In x p) e a))
          | inr a ↦ subst (λ x. In x f) e a
        ] in
        inr (
          kf,
          by_one i (inl (inl e)) z
              (as_free_by ops es k n (left_at ops i s) (left_at ops i s) (without i p) (without i f)
              (without i (k ∷ p)) (without i (without k f)) refl (record {
                owes = λ x a.
                    let b = without-In i x (k ∷ p) a in
                    elim b.0 [ inl y ↦ absurd (b.1 (y ∙ sym e)) | inr y ↦ In-without i x p y b.1 ];
                keeps = λ x a.
                    let b = without-In i x p a in
                    inl (inl (In-without i x (k ∷ p) (inr b.0) b.1));
                has = λ x a.
                    let b = without-In i x f a in
                    inl (In-without i x (without k f) (In-without k x f b.0 (λ y. b.1 (y ∙ sym e))) b.1);
              }) r),
        )
    | inr m ↦
        let place : In i p ⊎ In i (without k f) = elim h [
          | inl a ↦ inl a
          | inr a ↦ inr (In-without k i f a m)
        ] in
        let owed : In i (k ∷ p) ⊎ In i (without k f) = elim place [ inl b ↦ inl (inr b) | inr b ↦ inr b ] in
        elim (settled_by es k n (left_at ops i s) (without i p) (without i f)
        (λ a. not_owed (without-In i k p a).0) (λ x a.
        ahead x (elim a [ inl b ↦ inl (without-In i x p b).0 | inr b ↦ inr (without-In i x f b).0 ]))
        r) [
          | inl a ↦
              inl (delay_free es s p (without k f) i place z (ahead i h)
              (as_free ops es (left_at ops i s) (left_at ops i s) (without i p) (without k (without i f))
              (without i p) (without i (without k f)) refl (record {
                owes = λ x a. a;
                keeps = λ x a. inl (inl a);
                has = λ x a.
                    let b = without-In k x (without i f) a in
                    let c = without-In i x f b.0 in
                    inl (In-without i x (without k f) (In-without k x f c.0 b.1) c.1);
              }) a))
          | inr a ↦
              inr (
                (without-In i k f a.0).0,
                by_one i owed z
                    (as_free_by ops es k n (left_at ops i s) (left_at ops i s) (k ∷ without i p)
                    (without k (without i f)) (without i (k ∷ p)) (without i (without k f)) refl (record {
                      owes = λ x a.
                          let b = without-In i x (k ∷ p) a in
                          elim b.0 [ inl y ↦ inl y | inr y ↦ inr (In-without i x p y b.1) ];
                      keeps = λ x a. elim a [
                        | inl y ↦ inl (inl (In-without i x (k ∷ p) (inl y) (λ u. m (sym u ∙ y))))
                        | inr y ↦
                            let b = without-In i x p y in
                            inl (inl (In-without i x (k ∷ p) (inr b.0) b.1))
                      ];
                      has = λ x a.
                          let b = without-In k x (without i f) a in
                          let c = without-In i x f b.0 in
                          inl (In-without i x (without k f) (In-without k x f c.0 b.1) c.1);
                    }) a.1),
              )
        ]
  ]

  -- ---- what is of use

  -- a test passes at an element, or at none
  any_or : (t : ℕ → Bool) (xs : List ℕ)
      → ((i : ℕ) × In i xs × (t i ≡ true)) ⊎ ((i : ℕ) → In i xs → t i ≡ true → ⊥)
  any_or t [] = inr (λ i h. absurd h)
  any_or t (x ∷ xs) = elim (cases_Bool (t x)) [
    | inl e ↦ inl (x, inl refl, e)
    | inr n ↦ elim (any_or t xs) [
      | inl a ↦ inl (a.0, inr a.1, a.2)
      | inr m ↦
          inr (λ i h e. elim h [ inl y ↦ false≢true (sym n ∙ subst (λ u. t u ≡ true) y e) | inr y ↦ m i y e ])
    ]
  ]

  asked_or : (p f : List ℕ) (v : ℕ) → IsAsked ops p f v ⊎ (IsAsked ops p f v → ⊥)
  asked_or p f v = elim (any_or (λ i. asks_at ops i v) p) [
    | inl a ↦ inl (a.0, inl a.1, a.2)
    | inr n ↦ elim (any_or (λ i. asks_at ops i v) f) [
      | inl a ↦ inl (a.0, inr a.1, a.2)
      | inr m ↦ inr (λ a. elim a.1 [ inl h ↦ n a.0 h a.2 | inr h ↦ m a.0 h a.2 ])
    ]
  ]

  use_or : (p f : List ℕ) (k j s : ℕ) → IsOfUse ops p f k j s ⊎ (IsOfUse ops p f k j s → ⊥)
  use_or p f k j s = elim (same_or j k) [
    | inl e ↦ inl (inl e)
    | inr n ↦ elim (asked_or p f (left_at ops j s)) [
      | inl a ↦ inl (inr (inr a))
      | inr m ↦ elim (cases_Bool (writes_at ops j)) [
        | inl b ↦
            inr (λ u. elim u [
              | inl e ↦ n e
              | inr u ↦ elim u [ inl c ↦ false≢true (sym c.0 ∙ b) | inr a ↦ m a ]
            ])
        | inr b ↦ elim (In-or j p) [
          | inl i ↦ inl (inr (inl (b, i)))
          | inr o ↦ inr (λ u. elim u [ inl e ↦ n e | inr u ↦ elim u [ inl c ↦ o c.1 | inr a ↦ m a ] ])
        ]
      ]
    ]
  ]

  -- ---- writes are alike at all values

  write-fits : (j s : ℕ) → writes_at ops j ≡ true → fits_at ops j s ≡ true
  write-fits j s b = go (slice_get ops j) b
    where
      of_kind : (x : Kind) (a : ℕ) → kind_writes x ≡ true → kind_fits x a s ≡ true
      of_kind Read a b = absurd (false≢true b)
      of_kind Write a b = refl
      of_kind Cas a b = absurd (false≢true b)
      of_kind CasUnless a b = absurd (false≢true b)
      of_kind Miss a b = absurd (false≢true b)

      go : (o : Option Op) → option_writes o ≡ true → option_fits o s ≡ true
      go None b = absurd (false≢true b)
      go (Some o) b = of_kind o.kind o.from b

  write-left : (j s t : ℕ) → writes_at ops j ≡ true → left_at ops j s ≡ left_at ops j t
  write-left j s t b = go (slice_get ops j) b
    where
      of_kind : (x : Kind) (a : ℕ) → kind_writes x ≡ true → kind_leaves x a s ≡ kind_leaves x a t
      of_kind Read a b = absurd (false≢true b)
      of_kind Write a b = refl
      of_kind Cas a b = absurd (false≢true b)
      of_kind CasUnless a b = absurd (false≢true b)
      of_kind Miss a b = absurd (false≢true b)

      go : (o : Option Op) → option_writes o ≡ true → option_left_by o s ≡ option_left_by o t
      go None b = absurd (false≢true b)
      go (Some o) b = of_kind o.kind o.to b

  asks : (j v : ℕ) → writes_at ops j ≡ false → fits_at ops j v ≡ true → asks_at ops j v ≡ true
  asks j v b f = ap (λ x. not x && fits_at ops j v) b ∙ f

  not_staying : (k j : ℕ) → (j ≡ k → ⊥) → writes_at ops j ≡ true → stays ops k j ≡ false
  not_staying k j n b =
      let t : (j == k) ≡ false = grind (arith, nat_tests) in
      ap (λ x. cond x true (not (writes_at ops j))) t ∙ ap not b

  -- ---- what a call leaves

  after_any : (es : List Moment) (n : ℕ) (p f : List ℕ) (k s j : ℕ)
      → AliveBy ops k es n s (without j p) (without j f)
      → AliveBy ops k es n s (open_after ops k j p) (free_after ops k j p f)
  after_any es n p f k s j r = go (writes_at ops j)
    where
      go : (b : Bool)
          → AliveBy ops k es n s (cond b (kept ops k (without j p)) (without j p))
          (cond b (freed ops k (without j p) ++ without j f) (without j f))
      go true =
          as_free_by ops es k n s s (without j p) (without j f) (kept ops k (without j p))
          (freed ops k (without j p) ++ without j f) refl (record {
            owes = λ x a. (filter-In (stays ops k) x (without j p) a).0;
            keeps = λ x a. inl (elim (cases_Bool (stays ops k x)) [
              | inl t ↦ inl (In-filter (stays ops k) x (without j p) a t)
              | inr t ↦
                  inr (In-left x (freed ops k (without j p)) (without j f)
                  (In-filter (λ i. not (stays ops k i)) x (without j p) a (ap not t)))
            ]);
            has = λ x a. inl (In-right x (freed ops k (without j p)) (without j f) a);
          }) r
      go false = r

  -- a write that takes effect with one call fewer, which would be free then, does so with it
  after_more : (es : List Moment) (n : ℕ) (p f : List ℕ) (k s t i j : ℕ) → writes_at ops j ≡ true
      → (In i p → stays ops k i ≡ false) → s ≡ t
      → AliveBy ops k es n s (open_after ops k j (without i p))
      (free_after ops k j (without i p) (without i f))
      → AliveBy ops k es n t (open_after ops k j p) (free_after ops k j p f)
  after_more es n p f k s t i j b st e r = go (writes_at ops j) b r
    where
      go : (b : Bool) → b ≡ true
          → AliveBy ops k es n s (cond b (kept ops k (without j (without i p))) (without j (without i p)))
          (cond b (freed ops k (without j (without i p)) ++ without j (without i f))
          (without j (without i f)))
          → AliveBy ops k es n t (cond b (kept ops k (without j p)) (without j p))
          (cond b (freed ops k (without j p) ++ without j f) (without j f))
      go false c r = absurd (false≢true c)
      go true c r =
          as_free_by ops es k n s t (kept ops k (without j (without i p)))
          (freed ops k (without j (without i p)) ++ without j (without i f)) (kept ops k (without j p))
          (freed ops k (without j p) ++ without j f) e (record {
            owes = λ x a.
                let b = filter-In (stays ops k) x (without j p) a in
                let c = without-In j x p b.0 in
                In-filter (stays ops k) x (without j (without i p))
                (In-without j x (without i p)
                (In-without i x p c.0 (λ y.
                false≢true (sym (st (subst (λ u. In u p) y c.0))
                ∙ subst (λ u. stays ops k u ≡ true) y b.1))) c.1) b.1;
            keeps = λ x a.
                let b = filter-In (stays ops k) x (without j (without i p)) a in
                let c = without-In j x (without i p) b.0 in
                inl (inl (In-filter (stays ops k) x (without j p)
                (In-without j x p (without-In i x p c.0).0 c.1) b.1));
            has = λ x a. inl (elim (append-In x (freed ops k (without j (without i p)))
                (without j (without i f)) a) [
                  | inl h ↦
                      let b = filter-In (λ i. not (stays ops k i)) x (without j (without i p)) h in
                      let c = without-In j x (without i p) b.0 in
                      In-left x (freed ops k (without j p)) (without j f)
                      (In-filter (λ i. not (stays ops k i)) x (without j p)
                      (In-without j x p (without-In i x p c.0).0 c.1) b.1)
                  | inr h ↦
                      let c = without-In j x (without i f) h in
                      In-right x (freed ops k (without j p)) (without j f)
                      (In-without j x f (without-In i x f c.0).0 c.1)
                ]);
          }) r

  -- ---- the step: before the reply of an open call, only what is of use needs to take effect

  pub record IsUseful (es : List Moment) (n s : ℕ) (p f : List ℕ) (k : ℕ) : Type 0 where
    pub fewer : ℕ
    pub one_less : n ≡ suc fewer
    pub j : ℕ
    pub there : In j p ⊎ In j f
    pub suits : fits_at ops j s ≡ true
    pub of_use : IsOfUse ops p f k j s
    pub rest : AliveBy ops k es fewer (left_at ops j s) (open_after ops k j p) (free_after ops k j p f)

  -- a call of no use may be left out, since what takes effect after it is a write
  skipped : (es : List Moment) (n s : ℕ) (p f : List ℕ) (k i : ℕ) → (IsOfUse ops p f k i s → ⊥)
      → IsUseful es n (left_at ops i s) (without i p) (without i f) k → IsUseful es (suc n) s p f k
  skipped es n s p f k i useless u =
      let place : In u.j p ⊎ In u.j f = elim u.there [
        | inl h ↦ inl (without-In i u.j p h).0
        | inr h ↦ inr (without-In i u.j f h).0
      ] in
      let not_k : i ≡ k → ⊥ = λ e. useless (inl e) in
      let staying : In i p → stays ops k i ≡ false = λ h. elim (cases_Bool (writes_at ops i)) [
        | inl t ↦ not_staying k i not_k t
        | inr t ↦ absurd (useless (inr (inl (t, h))))
      ] in
      let write_j : writes_at ops u.j ≡ true = elim (cases_Bool (writes_at ops u.j)) [
        | inl t ↦ t
        | inr t ↦ absurd (useless (inr (inr (u.j, place, asks u.j (left_at ops i s) t u.suits))))
      ] in
      let same = write-left u.j (left_at ops i s) s write_j in
      record {
        fewer = suc u.fewer;
        one_less = ap suc u.one_less;
        j = u.j;
        there = place;
        suits = write-fits u.j s write_j;
        of_use = elim u.of_use [
          | inl e ↦ inl e
          | inr v ↦ elim v [
            | inl t ↦ inr (inl (t.0, (without-In i u.j p t.1).0))
            | inr a ↦
                inr (inr (
                  a.0,
                  elim a.1 [ inl h ↦ inl (without-In i a.0 p h).0 | inr h ↦ inr (without-In i a.0 f h).0 ],
                  subst (λ x. asks_at ops a.0 x ≡ true) same a.2,
                ))
          ]
        ];
        rest =
            by_more ops es k u.fewer (left_at ops u.j s) (open_after ops k u.j p) (free_after ops k u.j p f)
            (after_more es u.fewer p f k (left_at ops u.j (left_at ops i s)) (left_at ops u.j s) i u.j
            write_j staying same u.rest);
      }

  pub useful_step : (es : List Moment) (k n s : ℕ) (p f : List ℕ) → In k p → AliveBy ops k es n s p f
      → IsUseful es n s p f k
  useful_step es k n s p f o (at_once m r) = absurd (m o)
  useful_step es k (suc n) s p f o (by_one i h z r) = elim (use_or p f k i s) [
    | inl u ↦ record {
      fewer = n;
      one_less = refl;
      j = i;
      there = h;
      suits = z;
      of_use = u;
      rest = after_any es n p f k (left_at ops i s) i r;
    }
    | inr m ↦
        skipped es n s p f k i m
        (useful_step es k n (left_at ops i s) (without i p) (without i f)
        (In-without i k p o (λ e. m (inl (sym e)))) r)
  ]
