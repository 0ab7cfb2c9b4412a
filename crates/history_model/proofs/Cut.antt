-- What is known at a time of operations that are atomic is atomic.
use Rattle.std.proofs.Common.{◌≡◌, ℕ, suc, ◌<◌, ◌≤◌, nat_le, cond, true, List, [], ◌∷◌, ◌++◌, map}
use Rattle.std.proofs.Common.{◌⊎◌, inl, inr, refl, sym, ap, subst, ◌∙◌, arith}
use Rattle.std.proofs.lemmas.Bool.{and_parts, false≢true, cases_Bool, cases_lt, leb-true, le-leb}
use Rattle.std.specs.List.{filter}
use Rattle.history_model.specs.Lists.{In, Before}
use Rattle.history_model.proofs.Lists.{In-map, map-In, In-filter, filter-In, Before-map, map-Before}
use Rattle.history_model.proofs.Lists.{Before-first, Before-second, Before-across, append-In, In-left}
use Rattle.history_model.specs.declared.operation.Operation.{Operation}
use Rattle.history_model.specs.Cut.{is_over, known_at, is_called_by, cut_at}
use Rattle.history_model.specs.Legal.{IsLegal, IsMet, IsAtomic}
use Rattle.history_model.specs.Operations.{IsWrite, IsAsking, IsCompleted}

-- a replied by time t
abbrev IsOver : ℕ → Operation → Type 0
IsOver t a = is_over t a ≡ true

over : (t : ℕ) (a : Operation) → IsOver t a → IsCompleted a × (a.reply ≤ t)
over t a o = let b = and_parts a.completed (nat_le a.reply t) o in (b.0, leb-true a.reply t b.1)

over-or : (t : ℕ) (a : Operation) → IsOver t a ⊎ (IsOver t a → ⊥)
over-or t a = elim (cases_Bool (is_over t a)) [ inl y ↦ inl y | inr n ↦ inr (λ y. false≢true (sym n ∙ y)) ]

-- ---- the beginning of an order up to the last that replied by time t

record IsBeginning (t : ℕ) (xs ys zs : List Operation) : Type 0 where
  is : xs ≡ ys ++ zs
  rest : (a : Operation) → In a zs → IsOver t a → ⊥
  needed : (a : Operation) → In a ys → IsOver t a ⊎ ((b : Operation) × Before a b ys × IsOver t b)

beginning : (t : ℕ) (xs : List Operation) → (ys : List Operation) × (zs : List Operation)
    × IsBeginning t xs ys zs
beginning t [] = ([], [], record { is = refl; rest = λ a i _. i; needed = λ a i. absurd i })
beginning t (x ∷ xs) = let r = beginning t xs in go r.0 r.1 r.2
  where
    go : (ys zs : List Operation) → IsBeginning t xs ys zs → (ys : List Operation) × (zs : List Operation)
        × IsBeginning t (x ∷ xs) ys zs
    go [] zs b = elim (over-or t x) [
      | inl o ↦ (
        x ∷ [],
        zs,
        record {
          is = ap (λ l. x ∷ l) b.is;
          rest = b.rest;
          needed = λ a i. elim i [ inl e ↦ inl (subst (IsOver t) (sym e) o) | inr z ↦ absurd z ];
        },
      )
      | inr n ↦ (
        [],
        x ∷ zs,
        record {
          is = ap (λ l. x ∷ l) b.is;
          rest = λ a i o. elim i [ inl e ↦ n (subst (IsOver t) e o) | inr j ↦ b.rest a j o ];
          needed = λ a i. absurd i;
        },
      )
    ]
    go (y ∷ ys) zs b = (
      x ∷ y ∷ ys,
      zs,
      record {
        is = ap (λ l. x ∷ l) b.is;
        rest = b.rest;
        needed = λ a i. elim i [
          | inl e ↦ elim (b.needed y (inl refl)) [
            | inl o ↦ inr (y, inl (e, inl refl), o)
            | inr o ↦ inr (o.0, inl (e, Before-second y o.0 (y ∷ ys) o.1), o.2)
          ]
          | inr j ↦ elim (b.needed a j) [ inl o ↦ inl o | inr o ↦ inr (o.0, inr o.1, o.2) ]
        ];
      },
    )

append-Before : {X : Type 0} (a b : X) (xs ys : List X) → Before a b (xs ++ ys) → Before a b xs ⊎ In b ys
append-Before a b [] ys h = inr (Before-second a b ys h)
append-Before a b (x ∷ xs) ys (inl h) =
    elim (append-In b xs ys h.1) [ inl i ↦ inl (inl (h.0, i)) | inr i ↦ inr i ]
append-Before a b (x ∷ xs) ys (inr h) =
    elim (append-Before a b xs ys h) [ inl k ↦ inl (inr k) | inr i ↦ inr i ]

Before-left : {X : Type 0} (a b : X) (xs ys : List X) → Before a b xs → Before a b (xs ++ ys)
Before-left a b [] ys h = absurd h
Before-left a b (x ∷ xs) ys (inl h) = inl (h.0, In-left b xs ys h.1)
Before-left a b (x ∷ xs) ys (inr h) = inr (Before-left a b xs ys h)

-- ---- the cut's order

module _ (t : ℕ) (ops : List Operation) (life : (a : Operation) → In a ops → a.call < a.reply)
    (calls : (a b : Operation) → In a ops → In b ops → a.call ≡ b.call → a ≡ b) where
  module _ (order ys zs : List Operation) (l : IsLegal ops order) (b : IsBeginning t order ys zs) where
    up : (x y : Operation) → Before x y ys → Before x y order
    up x y h = subst (Before x y) (sym b.is) (Before-left x y ys zs h)

    in-order : (x : Operation) → In x ys → In x order
    in-order x i = subst (In x) (sym b.is) (In-left x ys zs i)

    own : (x : Operation) → In x ys → In x ops
    own x i = l.completion.only x (in-order x i)

    -- each was called by then: if it was called later, the one that replied by then would precede it
    called : (x : Operation) → In x ys → x.call ≤ t
    called x i = elim (b.needed x i) [
      | inl o ↦ omega (arith, life x (own x i), (over t x o).1)
      | inr o ↦ elim (cases_lt t x.call) [
        | inl late ↦ absurd (l.keeps x o.0 (up x o.0 o.1) (omega (arith, late, (over t o.0 o.2).1)))
        | inr le ↦ le
      ]
    ]

    -- the same as known is the same
    one : (x y : Operation) → In x ys → In y ys → known_at t x ≡ known_at t y → x ≡ y
    one x y i j e = calls x y (own x i) (own y j) (ap (λ (o : Operation). o.call) e)

    down : (w x : Operation) → In x ys → Before w x order → Before w x ys
    down w x i h = elim (append-Before w x ys zs (subst (Before w x) b.is h)) [
      | inl k ↦ k
      | inr j ↦ absurd (l.completion.once x (subst (Before x x) (sym b.is) (Before-across x x ys zs i j)))
    ]

    back : (x y : Operation) → In x ys → In y ys → Before (known_at t x) (known_at t y) (map (known_at t) ys)
        → Before x y ys
    back x y i j h =
        let k = map-Before (known_at t) (known_at t x) (known_at t y) ys h in
        let e = one x k.0 i (Before-first k.0 k.1 ys k.2) k.3 in
        let f = one y k.1 j (Before-second k.0 k.1 ys k.2) k.4 in
        subst (λ z. Before z y ys) (sym e) (subst (λ z. Before k.0 z ys) (sym f) k.2)

    cut-met : (x : Operation) → In x ys → IsAsking x → IsMet (map (known_at t) ys) (known_at t x)
    cut-met x i q =
        let m = l.met x (in-order x i) q in
        let before = down m.0 x i m.1.before in
        let j = Before-first m.0 x ys before in (
          known_at t m.0,
          record {
            write = m.1.write;
            register = m.1.register;
            before = Before-map (known_at t) m.0 x ys before;
            nearest = λ v c e h k.
                let p = map-In (known_at t) v ys (Before-second (known_at t m.0) v (map (known_at t) ys) h) in
                m.1.nearest p.0
                (subst (λ (o : Operation). IsWrite o) p.2 c)
                (ap (λ (o : Operation). o.register) (sym p.2) ∙ e)
                (up m.0 p.0 (back m.0 p.0 j p.1
                (subst (λ o. Before (known_at t m.0) o (map (known_at t) ys)) p.2 h)))
                (up p.0 x (back p.0 x p.1 i
                (subst (λ o. Before o (known_at t x) (map (known_at t) ys)) p.2 k)));
          },
          m.2,
        )

    cut-legal : IsLegal (cut_at t ops) (map (known_at t) ys)
    cut-legal = record {
      completion = record {
        once = λ a h.
            let k = map-Before (known_at t) a a ys h in
            let e =
            one k.0 k.1 (Before-first k.0 k.1 ys k.2) (Before-second k.0 k.1 ys k.2) (sym k.3 ∙ k.4) in
            l.completion.once k.0 (up k.0 k.0 (subst (λ z. Before k.0 z ys) (sym e) k.2));
        only = λ a i.
            let k = map-In (known_at t) a ys i in
            subst (λ z. In z (cut_at t ops)) (sym k.2)
            (In-map (known_at t) k.0 (filter (is_called_by t) ops)
            (In-filter (is_called_by t) k.0 ops (own k.0 k.1) (le-leb (k.0).call t (called k.0 k.1))));
        all = λ a i d.
            let k = map-In (known_at t) a (filter (is_called_by t) ops) i in
            let f = filter-In (is_called_by t) k.0 ops k.1 in
            let o : IsOver t k.0 = subst (λ (z : Operation). IsCompleted z) k.2 d in
            let there = l.completion.all k.0 f.0 (over t k.0 o).0 in
            elim (append-In k.0 ys zs (subst (In k.0) b.is there)) [
              | inl j ↦ subst (λ z. In z (map (known_at t) ys)) (sym k.2) (In-map (known_at t) k.0 ys j)
              | inr j ↦ absurd (b.rest k.0 j o)
            ];
      };
      keeps = λ a c h p.
          let k = map-Before (known_at t) a c ys h in
          let late = called k.0 (Before-first k.0 k.1 ys k.2) in
          let replied = ap (λ (o : Operation). o.reply) k.4 in
          let called_then = ap (λ (o : Operation). o.call) k.3 in
          l.keeps k.0 k.1 (up k.0 k.1 k.2) (elim (cases_Bool (is_over t k.1)) [
            | inl y ↦ omega (arith, p, called_then, replied, ap (λ c. cond c (k.1).reply (suc t)) y)
            | inr n ↦ absurd
                (omega (arith, p, late, called_then, replied, ap (λ c. cond c (k.1).reply (suc t)) n))
          ]);
      met = λ a i q.
          let k = map-In (known_at t) a ys i in
          subst (IsMet (map (known_at t) ys)) (sym k.2)
          (cut-met k.0 k.1 (subst (λ (z : Operation). IsAsking z) k.2 q));
    }

  pub cut-atomic : IsAtomic ops → IsAtomic (cut_at t ops)
  cut-atomic a = let r = beginning t a.0 in (map (known_at t) r.0, cut-legal a.0 r.0 r.1 a.1 r.2)
