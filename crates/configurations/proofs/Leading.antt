-- Of calls that change alike the one that replies first may go first.
use Rattle.std.proofs.Common.{◌≡◌, ℕ, ◌==◌, ◌<◌, ◌≤◌, not, cond, Bool, true, false, List, []}
use Rattle.std.proofs.Common.{◌∷◌, ◌++◌, ◌⊎◌, inl, inr, refl, sym, ap, subst, ◌∙◌, arith}
use Rattle.std.proofs.lemmas.Bool.{false≢true, not-true}
use Rattle.std.proofs.lemmas.Bool.Decides.{nat_tests}
use Rattle.history_model.specs.Lists.{In}
use Rattle.history_model.proofs.Lists.{In-filter, filter-In, In-left, In-right, append-In}
use Rattle.configurations.specs.declared.op.Op.{Op}
use Rattle.configurations.specs.declared.moment.Moment.{Moment}
use Rattle.configurations.specs.declared.moment.Moment.TheVariants.{Call, Reply}
use Rattle.configurations.specs.Ops.{fits_at, left_at, rank_at, writes_at}
use Rattle.configurations.specs.Runs.{AliveBy, AreInOrder, without}
use Rattle.configurations.specs.Use.{AreAlike, IsSooner, free_after, freed, kept, open_after, stays}
use Rattle.configurations.proofs.Lists.{In-without, same_or, without-In}
use Rattle.configurations.proofs.Exchanging.{exchange_by, exchange_free_by}

-- ---- who replies first

-- an open call of no higher rank replies before the other, or neither does
pub sooner : (ops : List Op) (i j : ℕ) (opened : List ℕ) (es : List Moment) → In i opened → (i ≡ j → ⊥)
    → rank_at ops i ≤ rank_at ops j → AreInOrder ops opened es → IsSooner i j es
sooner ops i j opened [] h n le o = tt
sooner ops i j opened (Call k ∷ es) h n le o = sooner ops i j (k ∷ opened) es (inr h) n le o.1
sooner ops i j opened (Reply k ∷ es) h n le o = elim (same_or k i) [
  | inl e ↦ inl e
  | inr m ↦ inr (
    λ e. elim (o.0 i h) [
      | inl y ↦ m (sym y)
      | inr y ↦
          let lt : rank_at ops j < rank_at ops i = subst (λ x. rank_at ops x < rank_at ops i) e y in
          omega (arith, lt, le)
    ],
    sooner ops i j (without k opened) es (In-without k i opened h (λ y. m (sym y))) n le o.1,
  )
]

-- ---- who stays and who is freed when a write takes effect

pub stays_false : (ops : List Op) (k x : ℕ) → stays ops k x ≡ false → (x ≡ k → ⊥) × (writes_at ops x ≡ true)
stays_false ops k x = go (x == k) (writes_at ops x) refl
  where
    go : (t b : Bool) → (x == k) ≡ t → cond t true (not b) ≡ false → (x ≡ k → ⊥) × (b ≡ true)
    go true b e h = absurd (false≢true (sym h))
    go false true e h = (λ z. grind (arith, nat_tests), refl)
    go false false e h = absurd (false≢true (sym h))

pub stays_true : (ops : List Op) (k x : ℕ) → (x ≡ k) ⊎ (writes_at ops x ≡ false) → stays ops k x ≡ true
stays_true ops k x h = go (x == k) (writes_at ops x) refl refl
  where
    go : (t b : Bool) → (x == k) ≡ t → writes_at ops x ≡ b → cond t true (not b) ≡ true
    go true b e f = refl
    go false false e f = refl
    go false true e f = elim h [
      | inl z ↦ absurd (grind (arith, nat_tests))
      | inr z ↦ absurd (false≢true (sym z ∙ f))
    ]

pub stays_not : (ops : List Op) (k x : ℕ) → (x ≡ k → ⊥) → writes_at ops x ≡ true → stays ops k x ≡ false
stays_not ops k x n w =
    let t : (x == k) ≡ false = grind (arith, nat_tests) in
    ap (λ y. cond y true (not (writes_at ops x))) t ∙ ap not w

-- ---- the leader in place of the other

-- i may take effect in place of j: it must if j must, and may be dropped only if j may
pub record MayLead (p f : List ℕ) (i j : ℕ) : Type 0 where
  pub apart : i ≡ j → ⊥
  pub there : In j p ⊎ In j f
  pub opened : (In i p × (In i f → ⊥)) ⊎ (In i f × (In i p → ⊥) × (In j p → ⊥))

module _ (ops : List Op) (k i j : ℕ) (p f : List ℕ) (es : List Moment) (steps : ℕ) (m : MayLead p f i j) where
  others_kept : (x : ℕ) → In x (kept ops k (without i p)) → In x p × (x ≡ i → ⊥) × (stays ops k x ≡ true)
  others_kept x a =
      let b = filter-In (stays ops k) x (without i p) a in
      let c = without-In i x p b.0 in
      (c.0, c.1, b.1)

  kept_others : (y x : ℕ) → In x p → (x ≡ y → ⊥) → stays ops k x ≡ true → In x (kept ops k (without y p))
  kept_others y x h n s = In-filter (stays ops k) x (without y p) (In-without y x p h n) s

  freed_others : (y x : ℕ) → (In x p × (stays ops k x ≡ false)) ⊎ In x f → (x ≡ y → ⊥)
      → In x (freed ops k (without y p) ++ without y f)
  freed_others y x h n = elim h [
    | inl a ↦
        In-left x (freed ops k (without y p)) (without y f)
        (In-filter (λ z. not (stays ops k z)) x (without y p) (In-without y x p a.0 n) (ap not a.1))
    | inr a ↦ In-right x (freed ops k (without y p)) (without y f) (In-without y x f a n)
  ]

  others_freed : (y x : ℕ) → In x (freed ops k (without y p) ++ without y f)
      → ((In x p × (stays ops k x ≡ false)) ⊎ In x f) × (x ≡ y → ⊥)
  others_freed y x a = elim (append-In x (freed ops k (without y p)) (without y f) a) [
    | inl h ↦
        let b = filter-In (λ z. not (stays ops k z)) x (without y p) h in
        let c = without-In y x p b.0 in
        (inl (c.0, not-true (stays ops k x) b.1), c.1)
    | inr h ↦ let c = without-In y x f h in (inr c.0, c.1)
  ]

  -- ---- both are writes

  module _ (write_i : writes_at ops i ≡ true) (write_j : writes_at ops j ≡ true) (k_in : In k p)
      (not_k : j ≡ k → ⊥) where
    away : (x : ℕ) → stays ops k x ≡ true → x ≡ j → ⊥
    away x s e = false≢true (sym (stays_not ops k j not_k write_j) ∙ subst (λ y. stays ops k y ≡ true) e s)

    spared : In j (freed ops k (without i p) ++ without i f)
    spared =
        freed_others i j (elim m.there [ inl h ↦ inl (h, stays_not ops k j not_k write_j) | inr h ↦ inr h ])
        (λ e. m.apart (sym e))

    gone_kept : In j (kept ops k (without j p)) → ⊥
    gone_kept a = let b = filter-In (stays ops k) j (without j p) a in (without-In j j p b.0).1 refl

    gone_freed : In j (freed ops k (without j p) ++ without j f) → ⊥
    gone_freed a = (others_freed j j a).1 refl

    kept_there : (x : ℕ) → In x (kept ops k (without j p)) → In x p × (stays ops k x ≡ true)
    kept_there x a = let b = filter-In (stays ops k) x (without j p) a in ((without-In j x p b.0).0, b.1)

    -- the leader is the call that replies
    writes_lead_owed : i ≡ k → (s t : ℕ) → s ≡ t → ((v : ℕ) → fits_at ops i v ≡ fits_at ops j v)
        → ((v : ℕ) → left_at ops i v ≡ left_at ops j v) → IsSooner i j (Reply k ∷ es)
        → (In (Call i) (Reply k ∷ es) → ⊥) → (In (Call j) (Reply k ∷ es) → ⊥)
        → AliveBy ops k es steps s (kept ops k (without j p)) (freed ops k (without j p) ++ without j f)
        → AliveBy ops k es steps t (kept ops k (without i p)) (freed ops k (without i p) ++ without i f)
    writes_lead_owed e s t same fit leave so ci cj r =
        let here : In i p = subst (λ x. In x p) (sym e) k_in in
        let unfree : In i f → ⊥ = λ h. elim m.opened [ inl o ↦ o.1 h | inr o ↦ o.1 here ] in
        exchange_by ops i j fit leave es k so (λ h. ci (inr h)) (λ h. cj (inr h)) steps s t
        (kept ops k (without j p)) (freed ops k (without j p) ++ without j f) (kept ops k (without i p))
        (freed ops k (without i p) ++ without i f) same (record {
          apart = m.apart;
          owed = kept_others j i here m.apart (stays_true ops k i (inl e));
          other = inr spared;
          gone_p = gone_kept;
          gone_f = gone_freed;
          owes = λ x a. let b = others_kept x a in inl (kept_others j x b.0 (away x b.2) b.2, b.1);
          keeps = λ x a n. let b = kept_there x a in inl (inl (kept_others i x b.0 n b.1));
          has = λ x a.
              let b = others_freed j x a in
              inl (freed_others i x b.0 (λ y. elim b.0 [
                | inl h ↦ false≢true (sym h.1 ∙ stays_true ops k x (inl (y ∙ e)))
                | inr h ↦ unfree (subst (λ z. In z f) y h)
              ]));
        }) r

    -- it is another one
    writes_lead_free : (i ≡ k → ⊥) → (s t : ℕ) → s ≡ t → ((v : ℕ) → fits_at ops i v ≡ fits_at ops j v)
        → ((v : ℕ) → left_at ops i v ≡ left_at ops j v) → IsSooner i j (Reply k ∷ es)
        → (In (Call i) (Reply k ∷ es) → ⊥) → (In (Call j) (Reply k ∷ es) → ⊥)
        → AliveBy ops k es steps s (kept ops k (without j p)) (freed ops k (without j p) ++ without j f)
        → AliveBy ops k es steps t (kept ops k (without i p)) (freed ops k (without i p) ++ without i f)
    writes_lead_free n s t same fit leave so ci cj r =
        let leaves : stays ops k i ≡ false = stays_not ops k i n write_i in
        let differs : (x : ℕ) → stays ops k x ≡ true → x ≡ i → ⊥ = λ x a y.
        false≢true (sym leaves ∙ subst (λ z. stays ops k z ≡ true) y a) in
        exchange_free_by ops i j fit leave es k so (λ h. ci (inr h)) (λ h. cj (inr h)) steps s t
        (kept ops k (without j p)) (freed ops k (without j p) ++ without j f) (kept ops k (without i p))
        (freed ops k (without i p) ++ without i f) same (record {
          free = freed_others j i (elim m.opened [ inl o ↦ inl (o.0, leaves) | inr o ↦ inr o.0 ]) m.apart;
          not_owed = λ a. differs i (kept_there i a).1 refl;
          other = spared;
          gone_p = gone_kept;
          gone_f = gone_freed;
          owes = λ x a. let b = others_kept x a in kept_others j x b.0 (away x b.2) b.2;
          keeps = λ x a. let b = kept_there x a in inl (inl (kept_others i x b.0 (differs x b.1) b.1));
          has = λ x a y. let b = others_freed j x a in inl (freed_others i x b.0 y);
        }) r

  -- ---- neither is a write

  others_lead : (s t : ℕ) → s ≡ t → ((v : ℕ) → fits_at ops i v ≡ fits_at ops j v)
      → ((v : ℕ) → left_at ops i v ≡ left_at ops j v) → IsSooner i j (Reply k ∷ es)
      → (In (Call i) (Reply k ∷ es) → ⊥) → (In (Call j) (Reply k ∷ es) → ⊥)
      → AliveBy ops k es steps s (without j p) (without j f)
      → AliveBy ops k es steps t (without i p) (without i f)
  others_lead s t same fit leave so ci cj r = elim m.opened [
    | inl o ↦
        exchange_by ops i j fit leave es k so (λ h. ci (inr h)) (λ h. cj (inr h)) steps s t (without j p)
        (without j f) (without i p) (without i f) same (record {
          apart = m.apart;
          owed = In-without j i p o.0 m.apart;
          other = elim m.there [
            | inl h ↦ inl (In-without i j p h (λ e. m.apart (sym e)))
            | inr h ↦ inr (In-without i j f h (λ e. m.apart (sym e)))
          ];
          gone_p = λ a. (without-In j j p a).1 refl;
          gone_f = λ a. (without-In j j f a).1 refl;
          owes = λ x a.
              let b = without-In i x p a in
              elim (same_or x j) [ inl e ↦ inr e | inr n ↦ inl (In-without j x p b.0 n, b.1) ];
          keeps = λ x a n. inl (inl (In-without i x p (without-In j x p a).0 n));
          has = λ x a.
              let b = without-In j x f a in
              inl (In-without i x f b.0 (λ e. o.1 (subst (λ y. In y f) e b.0)));
        }) r
    | inr o ↦
        exchange_free_by ops i j fit leave es k so (λ h. ci (inr h)) (λ h. cj (inr h)) steps s t (without j p)
        (without j f) (without i p) (without i f) same (record {
          free = In-without j i f o.0 m.apart;
          not_owed = λ a. o.1 (without-In j i p a).0;
          other = elim m.there [
            | inl h ↦ absurd (o.2 h)
            | inr h ↦ In-without i j f h (λ e. m.apart (sym e))
          ];
          gone_p = λ a. (without-In j j p a).1 refl;
          gone_f = λ a. (without-In j j f a).1 refl;
          owes = λ x a.
              let b = without-In i x p a in
              In-without j x p b.0 (λ e. o.2 (subst (λ y. In y p) e b.0));
          keeps = λ x a.
              let b = without-In j x p a in
              inl (inl (In-without i x p b.0 (λ e. o.1 (subst (λ y. In y p) e b.0))));
          has = λ x a n. inl (In-without i x f (without-In j x f a).0 n);
        }) r
  ]

  -- what can be explained once j has taken effect can be once i has
  pub leads : AreAlike ops i j → In k p → (j ≡ k → ⊥) → IsSooner i j (Reply k ∷ es)
      → (In (Call i) (Reply k ∷ es) → ⊥) → (In (Call j) (Reply k ∷ es) → ⊥) → (v : ℕ)
      → AliveBy ops k es steps (left_at ops j v) (open_after ops k j p) (free_after ops k j p f)
      → AliveBy ops k es steps (left_at ops i v) (open_after ops k i p) (free_after ops k i p f)
  leads a k_in not_k so ci cj v r = go (writes_at ops j) (writes_at ops i) refl a.write r
    where
      go : (b c : Bool) → writes_at ops j ≡ b → c ≡ writes_at ops j
          → AliveBy ops k es steps (left_at ops j v) (cond b (kept ops k (without j p)) (without j p))
          (cond b (freed ops k (without j p) ++ without j f) (without j f))
          → AliveBy ops k es steps (left_at ops i v) (cond c (kept ops k (without i p)) (without i p))
          (cond c (freed ops k (without i p) ++ without i f) (without i f))
      go true true e d r = elim (same_or i k) [
        | inl y ↦
            writes_lead_owed (a.write ∙ e) e k_in not_k y (left_at ops j v) (left_at ops i v)
            (sym (a.leave v)) a.fit a.leave so ci cj r
        | inr n ↦
            writes_lead_free (a.write ∙ e) e k_in not_k n (left_at ops j v) (left_at ops i v)
            (sym (a.leave v)) a.fit a.leave so ci cj r
      ]
      go false false e d r =
          others_lead (left_at ops j v) (left_at ops i v) (sym (a.leave v)) a.fit a.leave so ci cj r
      go true false e d r = absurd (false≢true (d ∙ e))
      go false true e d r = absurd (false≢true (sym (d ∙ e)))
