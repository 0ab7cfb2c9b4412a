-- Calls that change alike, of which one takes effect in place of the other: the one that replies first may go
-- first.
use Rattle.std.proofs.Common.{◌≡◌, ℕ, suc, true, List, [], ◌∷◌, ◌⊎◌, inl, inr, sym, ap, subst, ◌∙◌}
use Rattle.configurations.specs.declared.op.Op.{Op}
use Rattle.configurations.specs.declared.moment.Moment.{Moment}
use Rattle.configurations.specs.declared.moment.Moment.TheVariants.{Call, Reply}
use Rattle.history_model.specs.Lists.{In}
use Rattle.configurations.specs.Ops.{fits_at, left_at}
use Rattle.configurations.specs.Runs.{AliveFree, at_once, by_one, over_free, called_free, without}
use Rattle.configurations.specs.Use.{IsSooner}
use Rattle.configurations.proofs.Lists.{without-In, In-without, same_or}
use Rattle.configurations.proofs.AsFree.{Follows, FollowsBy, IsIdle, as_free, as_free_by, by_more, counted}
use Rattle.configurations.proofs.AsFree.{one_more, place_or, replied_placed, still_placed, uncounted}

module _ (ops : List Op) where
  -- i and j are open or free alike, and the same at all values. What a run can do that has let j take effect,
  -- one can that has let i, if i replies first.
  pub record IsExchange (i j : ℕ) (p f q g : List ℕ) : Type 0 where
    pub apart : i ≡ j → ⊥
    pub owed : In i p
    pub other : In j q ⊎ In j g
    pub gone_p : In j p → ⊥
    pub gone_f : In j f → ⊥
    pub owes : (x : ℕ) → In x q → (In x p × (x ≡ i → ⊥)) ⊎ (x ≡ j)
    pub keeps : (x : ℕ) → In x p → (x ≡ i → ⊥) → (In x q ⊎ In x g) ⊎ IsIdle ops x
    pub has : (x : ℕ) → In x f → In x g ⊎ IsIdle ops x

  module _ (i j : ℕ) (same_fits : (s : ℕ) → fits_at ops i s ≡ fits_at ops j s)
      (same_left : (s : ℕ) → left_at ops i s ≡ left_at ops j s) where
    exchange_before : (k : ℕ) (es : List Moment) → (IsSooner i j es → Follows ops (IsExchange i j) es)
        → IsSooner i j (Reply k ∷ es) → FollowsBy ops (IsExchange i j) k es
    exchange_before k es rest so n s t p f q g e w (at_once m r) =
        let differs : (x : ℕ) → In x p → x ≡ k → ⊥ = λ x a y. m (subst (λ u. In u p) y a) in
        let later : (k ≡ j → ⊥) × IsSooner i j es = elim so [
          | inl y ↦ absurd (differs i w.owed (sym y))
          | inr y ↦ y
        ] in
        at_once (λ a. elim (w.owes k a) [ inl u ↦ m u.0 | inr u ↦ later.0 u ])
        (rest later.1 s t p (without k f) q (without k g) e (record {
          apart = w.apart;
          owed = w.owed;
          other = replied_placed ops k j q g (λ y. later.0 (sym y)) w.other;
          gone_p = w.gone_p;
          gone_f = λ a. w.gone_f (without-In k j f a).0;
          owes = w.owes;
          keeps = λ x a n. elim (w.keeps x a n) [
            | inl b ↦ inl (replied_placed ops k x q g (differs x a) b)
            | inr b ↦ inr b
          ];
          has = λ x a.
              let b = without-In k x f a in
              elim (w.has x b.0) [ inl c ↦ inl (In-without k x g c b.1) | inr c ↦ inr c ];
        }) r)
    exchange_before k es rest so (suc n) s t p f q g e w (by_one l h z r) = elim (same_or l i) [
      | inl y ↦
          let suits = sym (same_fits s) ∙ subst (λ u. fits_at ops u s ≡ true) y z in
          let leaves = ap (λ u. left_at ops u s) y ∙ (same_left s ∙ ap (left_at ops j) e) in
          by_one j w.other (subst (λ x. fits_at ops j x ≡ true) e suits)
          (as_free_by ops es k n (left_at ops l s) (left_at ops j t) (without l p) (without l f) (without j q)
          (without j g) leaves (record {
            owes = λ x a.
                let b = without-In j x q a in
                elim (w.owes x b.0) [
                  | inl c ↦ In-without l x p c.0 (λ u. c.1 (u ∙ y))
                  | inr c ↦ absurd (b.1 c)
                ];
            keeps = λ x a.
                let b = without-In l x p a in
                let m : x ≡ j → ⊥ = λ u. w.gone_p (subst (λ v. In v p) u b.0) in
                elim (w.keeps x b.0 (λ u. b.1 (u ∙ sym y))) [
                  | inl c ↦ inl (still_placed ops j x q g m c)
                  | inr c ↦ inr c
                ];
            has = λ x a.
                let b = without-In l x f a in
                elim (w.has x b.0) [
                  | inl c ↦ inl (In-without j x g c (λ u. w.gone_f (subst (λ v. In v f) u b.0)))
                  | inr c ↦ inr c
                ];
          }) r)
      | inr o ↦
          let not_j : l ≡ j → ⊥ = λ u. elim h [
            | inl a ↦ w.gone_p (subst (λ v. In v p) u a)
            | inr a ↦ w.gone_f (subst (λ v. In v f) u a)
          ] in
          elim (place_or ops l q g) [
            | inl here ↦
                let now = left_at ops l in
                by_one l here (subst (λ x. fits_at ops l x ≡ true) e z)
                (exchange_before k es rest so n (now s) (now t) (without l p) (without l f) (without l q)
                (without l g) (ap now e) (record {
                  apart = w.apart;
                  owed = In-without l i p w.owed (λ u. o (sym u));
                  other = still_placed ops l j q g (λ u. not_j (sym u)) w.other;
                  gone_p = λ a. w.gone_p (without-In l j p a).0;
                  gone_f = λ a. w.gone_f (without-In l j f a).0;
                  owes = λ x a.
                      let b = without-In l x q a in
                      elim (w.owes x b.0) [
                        | inl c ↦ inl (In-without l x p c.0 b.1, c.1)
                        | inr c ↦ inr c
                      ];
                  keeps = λ x a m.
                      let b = without-In l x p a in
                      elim (w.keeps x b.0 m) [
                        | inl c ↦ inl (still_placed ops l x q g b.1 c)
                        | inr c ↦ inr c
                      ];
                  has = λ x a.
                      let b = without-In l x f a in
                      elim (w.has x b.0) [ inl c ↦ inl (In-without l x g c b.1) | inr c ↦ inr c ];
                }) r)
            | inr gone ↦
                let idle : IsIdle ops l = elim h [
                  | inl a ↦ elim (w.keeps l a o) [ inl b ↦ absurd (gone b) | inr b ↦ b ]
                  | inr a ↦ elim (w.has l a) [ inl b ↦ absurd (gone (inr b)) | inr b ↦ b ]
                ] in
                by_more ops es k n t q g
                (exchange_before k es rest so n (left_at ops l s) t (without l p) (without l f) q g
                (idle s ∙ e) (record {
                  apart = w.apart;
                  owed = In-without l i p w.owed (λ u. o (sym u));
                  other = w.other;
                  gone_p = λ a. w.gone_p (without-In l j p a).0;
                  gone_f = λ a. w.gone_f (without-In l j f a).0;
                  owes = λ x a. elim (w.owes x a) [
                    | inl c ↦
                        let n : x ≡ l → ⊥ = λ u. gone (inl (subst (λ v. In v q) u a)) in
                        inl (In-without l x p c.0 n, c.1)
                    | inr c ↦ inr c
                  ];
                  keeps = λ x a m. w.keeps x (without-In l x p a).0 m;
                  has = λ x a. w.has x (without-In l x f a).0;
                }) r)
          ]
    ]

    exchange : (es : List Moment) → IsSooner i j es → (In (Call i) es → ⊥) → (In (Call j) es → ⊥)
        → Follows ops (IsExchange i j) es
    exchange [] so ci cj s t p f q g e w over_free = over_free
    exchange (Call k ∷ es) so ci cj s t p f q g e w (called_free r) =
        let rest = exchange es so (λ c. ci (inr c)) (λ c. cj (inr c)) in
        called_free (rest s t (k ∷ p) f (k ∷ q) g e (record {
          apart = w.apart;
          owed = inr w.owed;
          other = one_more ops k j q g w.other;
          gone_p = λ a. elim a [ inl y ↦ cj (inl (ap Call y)) | inr y ↦ w.gone_p y ];
          gone_f = w.gone_f;
          owes = λ x a. elim a [
            | inl y ↦ inl (inl y, λ u. ci (inl (ap Call (sym u ∙ y))))
            | inr y ↦ elim (w.owes x y) [ inl u ↦ inl (inr u.0, u.1) | inr u ↦ inr u ]
          ];
          keeps = λ x a m. elim a [
            | inl y ↦ inl (inl (inl y))
            | inr y ↦ elim (w.keeps x y m) [ inl b ↦ inl (one_more ops k x q g b) | inr b ↦ inr b ]
          ];
          has = w.has;
        }) r)
    exchange (Reply k ∷ es) so ci cj s t p f q g e w r =
        let rest : IsSooner i j es → Follows ops (IsExchange i j) es =
        λ sooner. exchange es sooner (λ c. ci (inr c)) (λ c. cj (inr c)) in
        let c = counted ops es s p f k r in
        uncounted ops es k c.0 t q g (exchange_before k es rest so c.0 s t p f q g e w c.1)

    pub exchange_by : (es : List Moment) (k : ℕ) → IsSooner i j (Reply k ∷ es) → (In (Call i) es → ⊥)
        → (In (Call j) es → ⊥) → FollowsBy ops (IsExchange i j) k es
    exchange_by es k so ci cj = exchange_before k es (λ sooner. exchange es sooner ci cj) so

  -- The same where the call that was spared is free.
  pub record IsFreeExchange (i j : ℕ) (p f q g : List ℕ) : Type 0 where
    pub free : In i f
    pub not_owed : In i p → ⊥
    pub other : In j g
    pub gone_p : In j p → ⊥
    pub gone_f : In j f → ⊥
    pub owes : (x : ℕ) → In x q → In x p
    pub keeps : (x : ℕ) → In x p → (In x q ⊎ In x g) ⊎ IsIdle ops x
    pub has : (x : ℕ) → In x f → (x ≡ i → ⊥) → In x g ⊎ IsIdle ops x

  module _ (i j : ℕ) (same_fits : (s : ℕ) → fits_at ops i s ≡ fits_at ops j s)
      (same_left : (s : ℕ) → left_at ops i s ≡ left_at ops j s) where
    exchange_free_before : (k : ℕ) (es : List Moment)
        → (IsSooner i j es → Follows ops (IsFreeExchange i j) es) → IsSooner i j (Reply k ∷ es)
        → FollowsBy ops (IsFreeExchange i j) k es
    exchange_free_before k es rest so n s t p f q g e w (at_once m r) =
        let keeps_still : (x : ℕ) → In x p → (In x q ⊎ In x (without k g)) ⊎ IsIdle ops x =
        λ x a. elim (w.keeps x a) [
          | inl b ↦ inl (replied_placed ops k x q g (λ y. m (subst (λ u. In u p) y a)) b)
          | inr b ↦ inr b
        ] in
        let after : AliveFree ops t q (without k g) es = elim (same_or k i) [
          | inl y ↦ as_free ops es s t p (without k f) q (without k g) e (record {
            owes = w.owes;
            keeps = keeps_still;
            has = λ x a.
                let b = without-In k x f a in
                elim (w.has x b.0 (λ u. b.1 (u ∙ sym y))) [
                  | inl c ↦ inl (In-without k x g c b.1)
                  | inr c ↦ inr c
                ];
          }) r
          | inr o ↦
              let later : (k ≡ j → ⊥) × IsSooner i j es = elim so [ inl y ↦ absurd (o y) | inr y ↦ y ] in
              rest later.1 s t p (without k f) q (without k g) e (record {
                free = In-without k i f w.free (λ u. o (sym u));
                not_owed = w.not_owed;
                other = In-without k j g w.other (λ u. later.0 (sym u));
                gone_p = w.gone_p;
                gone_f = λ a. w.gone_f (without-In k j f a).0;
                owes = w.owes;
                keeps = keeps_still;
                has = λ x a u.
                    let b = without-In k x f a in
                    elim (w.has x b.0 u) [ inl c ↦ inl (In-without k x g c b.1) | inr c ↦ inr c ];
              }) r
        ] in
        at_once (λ a. m (w.owes k a)) after
    exchange_free_before k es rest so (suc n) s t p f q g e w (by_one l h z r) = elim (same_or l i) [
      | inl y ↦
          let suits = sym (same_fits s) ∙ subst (λ u. fits_at ops u s ≡ true) y z in
          let leaves = ap (λ u. left_at ops u s) y ∙ (same_left s ∙ ap (left_at ops j) e) in
          by_one j (inr w.other) (subst (λ x. fits_at ops j x ≡ true) e suits)
          (as_free_by ops es k n (left_at ops l s) (left_at ops j t) (without l p) (without l f) (without j q)
          (without j g) leaves (record {
            owes = λ x a.
                let c = w.owes x (without-In j x q a).0 in
                In-without l x p c (λ u. w.not_owed (subst (λ v. In v p) (u ∙ y) c));
            keeps = λ x a.
                let b = without-In l x p a in
                let m : x ≡ j → ⊥ = λ u. w.gone_p (subst (λ v. In v p) u b.0) in
                elim (w.keeps x b.0) [
                  | inl c ↦ inl (still_placed ops j x q g m c)
                  | inr c ↦ inr c
                ];
            has = λ x a.
                let b = without-In l x f a in
                elim (w.has x b.0 (λ u. b.1 (u ∙ sym y))) [
                  | inl c ↦ inl (In-without j x g c (λ u. w.gone_f (subst (λ v. In v f) u b.0)))
                  | inr c ↦ inr c
                ];
          }) r)
      | inr o ↦
          let not_j : l ≡ j → ⊥ = λ u. elim h [
            | inl a ↦ w.gone_p (subst (λ v. In v p) u a)
            | inr a ↦ w.gone_f (subst (λ v. In v f) u a)
          ] in
          elim (place_or ops l q g) [
            | inl here ↦
                let now = left_at ops l in
                by_one l here (subst (λ x. fits_at ops l x ≡ true) e z)
                (exchange_free_before k es rest so n (now s) (now t) (without l p) (without l f) (without l q)
                (without l g) (ap now e) (record {
                  free = In-without l i f w.free (λ u. o (sym u));
                  not_owed = λ a. w.not_owed (without-In l i p a).0;
                  other = In-without l j g w.other (λ u. not_j (sym u));
                  gone_p = λ a. w.gone_p (without-In l j p a).0;
                  gone_f = λ a. w.gone_f (without-In l j f a).0;
                  owes = λ x a. let b = without-In l x q a in In-without l x p (w.owes x b.0) b.1;
                  keeps = λ x a.
                      let b = without-In l x p a in
                      elim (w.keeps x b.0) [
                        | inl c ↦ inl (still_placed ops l x q g b.1 c)
                        | inr c ↦ inr c
                      ];
                  has = λ x a m.
                      let b = without-In l x f a in
                      elim (w.has x b.0 m) [ inl c ↦ inl (In-without l x g c b.1) | inr c ↦ inr c ];
                }) r)
            | inr gone ↦
                let idle : IsIdle ops l = elim h [
                  | inl a ↦ elim (w.keeps l a) [ inl b ↦ absurd (gone b) | inr b ↦ b ]
                  | inr a ↦ elim (w.has l a o) [ inl b ↦ absurd (gone (inr b)) | inr b ↦ b ]
                ] in
                by_more ops es k n t q g
                (exchange_free_before k es rest so n (left_at ops l s) t (without l p) (without l f) q g
                (idle s ∙ e) (record {
                  free = In-without l i f w.free (λ u. o (sym u));
                  not_owed = λ a. w.not_owed (without-In l i p a).0;
                  other = w.other;
                  gone_p = λ a. w.gone_p (without-In l j p a).0;
                  gone_f = λ a. w.gone_f (without-In l j f a).0;
                  owes = λ x a. In-without l x p (w.owes x a) (λ u. gone (inl (subst (λ v. In v q) u a)));
                  keeps = λ x a. w.keeps x (without-In l x p a).0;
                  has = λ x a m. w.has x (without-In l x f a).0 m;
                }) r)
          ]
    ]

    exchange_free : (es : List Moment) → IsSooner i j es → (In (Call i) es → ⊥) → (In (Call j) es → ⊥)
        → Follows ops (IsFreeExchange i j) es
    exchange_free [] so ci cj s t p f q g e w over_free = over_free
    exchange_free (Call k ∷ es) so ci cj s t p f q g e w (called_free r) =
        let rest = exchange_free es so (λ c. ci (inr c)) (λ c. cj (inr c)) in
        called_free (rest s t (k ∷ p) f (k ∷ q) g e (record {
          free = w.free;
          not_owed = λ a. elim a [ inl y ↦ ci (inl (ap Call y)) | inr y ↦ w.not_owed y ];
          other = w.other;
          gone_p = λ a. elim a [ inl y ↦ cj (inl (ap Call y)) | inr y ↦ w.gone_p y ];
          gone_f = w.gone_f;
          owes = λ x a. elim a [ inl y ↦ inl y | inr y ↦ inr (w.owes x y) ];
          keeps = λ x a. elim a [
            | inl y ↦ inl (inl (inl y))
            | inr y ↦ elim (w.keeps x y) [ inl b ↦ inl (one_more ops k x q g b) | inr b ↦ inr b ]
          ];
          has = w.has;
        }) r)
    exchange_free (Reply k ∷ es) so ci cj s t p f q g e w r =
        let rest : IsSooner i j es → Follows ops (IsFreeExchange i j) es =
        λ sooner. exchange_free es sooner (λ c. ci (inr c)) (λ c. cj (inr c)) in
        let c = counted ops es s p f k r in
        uncounted ops es k c.0 t q g (exchange_free_before k es rest so c.0 s t p f q g e w c.1)

    pub exchange_free_by : (es : List Moment) (k : ℕ) → IsSooner i j (Reply k ∷ es) → (In (Call i) es → ⊥)
        → (In (Call j) es → ⊥) → FollowsBy ops (IsFreeExchange i j) k es
    exchange_free_by es k so ci cj =
        exchange_free_before k es (λ sooner. exchange_free es sooner ci cj) so
