-- A new pair behind the others: it ascends, or it stands in the table.
use Rattle.std.proofs.Common.{◌≡◌, ◌<◌, ◌≤◌, ◌⊎◌, inl, inr, ◌<ℤ◌, ◌≤ℤ◌, ℕ, ℤ, Bool, true}
use Rattle.std.proofs.Common.{false, eqb, nat_lt, List, [], ◌∷◌, ◌++◌, length, slice_get}
use Rattle.std.proofs.Common.{Option, Some, None, refl, sym, ap, subst, ◌∙◌, arith}
use Rattle.std.proofs.lemmas.Bool.{ltb-true, ltb-false, eqb-true, eqb-false}
use Rattle.std.proofs.lemmas.Int.{ints}
use Rattle.std.proofs.lemmas.Option.{slice_get_within}
use Rattle.history_model.proofs.Lists.{slice_get-push, slice_get-push_other}
use Rattle.reg_arena.specs.Lists.Tables.{IsSetAt}
use Rattle.reg_arena.specs.declared.event_lists.ascent.Pair.{Pair}
use Rattle.reg_arena.specs.Lists.Pairs.{ArePairs, IsAscending, key_of}
use Rattle.reg_arena.proofs.ListLemmas.Searching.{ascending-one, ascending-within}

module _ (pairs : List Pair) (top : ℕ → Option ℕ) (table : ℕ × Option ℤ
    → Option ℕ) (are : ArePairs pairs top table) where
  -- the top of a register is its last ascending pair
  pub last-top : (n r t : ℕ) (v : ℤ) → IsAscending pairs n r v → top r ≡ Some t → n ≤ t
  last-top n r t v a is = go (nat_lt t n) refl
    where
      go : (b : Bool) → nat_lt t n ≡ b → n ≤ t
      go true q = absurd (
          let low = are.below n a.pair v a.at a.value in
          let register = ap top a.register in
          let its = low.2 in
          let same : low.0 ≡ t = cc (its, register, is) in
          let later =
          are.ascent.ascends t n r low.1 v
          (subst (λ m. IsAscending pairs m r low.1) same
          (subst (λ s. IsAscending pairs low.0 s low.1) a.register low.3)) a (ltb-true t n q) in
          let le = low.4 in
          omega (arith, ints, later, le)
          )
      go false q = ltb-false t n q

-- what stands at a place stood there before, or is the new one
pub place-split : (pairs : List Pair) (p : Pair) (n : ℕ) (q : Pair) → slice_get (pairs ++ p ∷ []) n ≡ Some q
    → ((slice_get pairs n ≡ Some q) × (n < length pairs)) ⊎ ((n ≡ length pairs) × (q ≡ p))
place-split pairs p n q at = go (eqb n (length pairs)) refl
  where
    go : (b : Bool) → eqb n (length pairs) ≡ b → ((slice_get pairs n ≡ Some q) × (n < length pairs))
        ⊎ ((n ≡ length pairs) × (q ≡ p))
    go true e =
        let same = eqb-true n (length pairs) e in
        let here = slice_get-push pairs p in
        let is : q ≡ p = (let moved = ap (slice_get (pairs ++ p ∷ [])) same in cc (at, moved, here)) in
        inr (same, is)
    go false e =
        let old = sym (slice_get-push_other pairs p n (λ same. eqb-false n (length pairs) e same)) ∙ at in
        inl (old, slice_get_within pairs n q old)

module _ (pairs : List Pair) (p : Pair) where
  abbrev more : List Pair
  more = pairs ++ p ∷ []

  pub place-kept : (n : ℕ) (q : Pair) → slice_get pairs n ≡ Some q → slice_get more n ≡ Some q
  place-kept n q at =
      slice_get-push_other pairs p n (λ e. let l = slice_get_within pairs n q at in omega (arith, e, l)) ∙ at

  pub ascending-kept : (n r : ℕ) (v : ℤ) → IsAscending pairs n r v → IsAscending more n r v
  ascending-kept n r v a = record {
    pair = a.pair;
    at = place-kept n a.pair a.at;
    register = a.register;
    value = a.value;
    deep = a.deep;
  }

  -- an ascending pair at a place that had one
  abbrev pub ascending-old : (n r : ℕ) (v : ℤ) → (a : IsAscending more n r v)
      → slice_get pairs n ≡ Some a.pair → IsAscending pairs n r v
  ascending-old n r v a at = record {
    pair = a.pair;
    at = at;
    register = a.register;
    value = a.value;
    deep = a.deep;
  }

module _ (pairs : List Pair) (top new_top : ℕ → Option ℕ) (table new_table : ℕ × Option ℤ
    → Option ℕ) (are : ArePairs pairs top table) (p : Pair)
    (new : (n : ℕ) (q : Pair) → slice_get pairs n ≡ Some q → key_of q ≡ key_of p → ⊥) where
  -- no key stands twice then
  distinct-more : (m n : ℕ) (q s : Pair) → slice_get (more pairs p) m ≡ Some q
      → slice_get (more pairs p) n ≡ Some s → key_of q ≡ key_of s → m ≡ n
  distinct-more m n q s at_m at_n same = elim (place-split pairs p m q at_m) [
    | inl old ↦ elim (place-split pairs p n s at_n) [
      | inl older ↦ are.distinct m n q s old.0 older.0 same
      | inr last ↦ absurd (new m q old.0 (same ∙ ap key_of last.1))
    ]
    | inr first ↦ elim (place-split pairs p n s at_n) [
      | inl older ↦ absurd (new n s older.0 (sym same ∙ ap key_of first.1))
      | inr last ↦ first.0 ∙ sym last.0
    ]
  ]

  here : slice_get (more pairs p) (length pairs) ≡ Some p
  here = slice_get-push pairs p

  -- a pair that doesn't ascend
  module _ (flat : p.depth ≡ 0) (low : (v : ℤ) → p.value ≡ Some v
      → (t : ℕ) × (w : ℤ) × (top p.register ≡ Some t) × IsAscending pairs t p.register w
      × (v ≤ℤ w)) (same_top : (r : ℕ) → new_top r ≡ top r)
      (set : IsSetAt (key_of p) (length pairs) table new_table) where
    -- the ascending pairs are the old ones
    was : (n r : ℕ) (v : ℤ) → (a : IsAscending (more pairs p) n r v) → slice_get pairs n ≡ Some a.pair
    was n r v a = elim (place-split pairs p n a.pair a.at) [
      | inl old ↦ old.0
      | inr last ↦ absurd (let deep = a.deep in let depth = ap (λ (q : Pair). q.depth) last.1 in
          omega (arith, deep, depth, flat))
    ]

    abbrev old : (n r : ℕ) (v : ℤ) → IsAscending (more pairs p) n r v → IsAscending pairs n r v
    old n r v a = ascending-old pairs p n r v a (was n r v a)

    pub entered-table : ArePairs (more pairs p) new_top new_table
    entered-table = record {
      ascent = record {
        back =
            λ n r v a. elim (are.ascent.back n r v (old n r v a)) [
              | inl same ↦ inl same
              | inr there ↦ inr (there.0, ascending-kept pairs p a.pair.previous r there.0 there.1)
            ];
        last = λ m n r v w a b l. are.ascent.last m n r v w (old n r v a) (old m r w b) l;
        ascends = λ m n r v w a b l. are.ascent.ascends m n r v w (old m r v a) (old n r w b) l;
      };
      tops =
          λ r t is. let there =
          are.tops r t (sym (same_top r) ∙ is) in (there.0, ascending-kept pairs p t r there.0 there.1);
      below = λ n q v at is. elim (place-split pairs p n q at) [
        | inl there ↦ (let b = are.below n q v there.0 is in
            (b.0, b.1, same_top q.register ∙ b.2, ascending-kept pairs p b.0 q.register b.1 b.3, b.4))
        | inr last ↦
            let b = low v (sym (ap (λ (s : Pair). s.value) last.1) ∙ is) in
            let register = ap (λ (s : Pair). s.register) (sym last.1) in
            subst (λ r. (t : ℕ) × (w : ℤ) × (new_top r ≡ Some t) × IsAscending (more pairs p) t r w
            × (v ≤ℤ w)) register (
              b.0,
              b.1,
              same_top p.register ∙ b.2,
              ascending-kept pairs p b.0 p.register b.1 b.3,
              b.4,
            )
      ];
      found = λ n q at. elim (place-split pairs p n q at) [
        | inl there ↦ elim (are.found n q there.0) [
          | inl a ↦ inl (a.0, ascending-kept pairs p n q.register a.0 a.1)
          | inr is ↦ inr (elim (set.others (key_of q)) [
            | inl e ↦ absurd (new n q there.0 e)
            | inr d ↦ d.1 ∙ is
          ])
        ]
        | inr last ↦ inr (ap new_table (ap key_of last.1) ∙ (set.one ∙ ap Some (sym last.0)))
      ];
      sound = λ k n is. elim (set.others k) [
        | inl e ↦ (
          p,
          (let one = set.one in let at = ap new_table e in
              let place : length pairs ≡ n =
              cc (one, at, is) in subst (λ m. slice_get (more pairs p) m ≡ Some p) place here),
          sym e,
        )
        | inr d ↦ (let there = are.sound k n (sym d.1 ∙ is) in
            (there.0, place-kept pairs p n there.0 there.1, there.2))
      ];
      distinct = distinct-more;
    }

  -- a pair that ascends
  module _ (v : ℤ) (value : p.value ≡ Some v) (deep : 0 < p.depth)
      (fits : ((top p.register ≡ None) × (p.previous ≡ length pairs))
      ⊎ ((t : ℕ) × (w : ℤ) × (top p.register ≡ Some t) × IsAscending pairs t p.register w × (w <ℤ v)
      × (p.previous ≡ t)))
      (set : IsSetAt p.register (length pairs) top new_top) (same_table : (k : ℕ × Option ℤ)
      → new_table k ≡ table k) where
    -- the new one, wherever it is met
    newest : (n r : ℕ) → n ≡ length pairs → p.register ≡ r → IsAscending (more pairs p) n r v
    newest n r at register = record {
      pair = p;
      at = ap (slice_get (more pairs p)) at ∙ here;
      register = register;
      value = value;
      deep = deep;
    }

    -- it is behind all others of its register and above them
    behind-all : (m r : ℕ) (u : ℤ) → p.register ≡ r → IsAscending pairs m r u
        → (m ≤ p.previous) × (p.previous < length pairs) × (u <ℤ v)
    behind-all m r u register a =
        let low = are.below m a.pair u a.at a.value in
        let its = low.2 in
        let its_register = ap top (a.register ∙ sym register) in
        elim fits [
          | inl none ↦ absurd (let no = none.0 in cc (its, its_register, no))
          | inr f ↦
              let some = f.2 in
              let same : low.0 ≡ f.0 = cc (its, its_register, some) in
              let one = ascending-one pairs low.0 f.0 a.pair.register p.register low.1 f.1 low.3 f.3 same in
              let last =
              last-top pairs top table are m p.register f.0 u
              (subst (λ s. IsAscending pairs m s u) (sym register) a) f.2 in
              let within = ascending-within pairs f.0 p.register f.1 f.3 in
              let le = low.4 in
              let less = f.4 in
              let back = f.5 in
              (omega (arith, last, back), omega (arith, within, back), omega (arith, ints, le, less, one))
        ]

    kept : (n r : ℕ) (u : ℤ) → IsAscending pairs n r u → IsAscending (more pairs p) n r u
    kept n r u a = ascending-kept pairs p n r u a

    back-more : (n r : ℕ) (u : ℤ) → (a : IsAscending (more pairs p) n r u)
        → (a.pair.previous ≡ n) ⊎ ((w : ℤ) × IsAscending (more pairs p) a.pair.previous r w)
    back-more n r u a = elim (place-split pairs p n a.pair a.at) [
      | inl was ↦ elim (are.ascent.back n r u (ascending-old pairs p n r u a was.0)) [
        | inl same ↦ inl same
        | inr there ↦ inr (there.0, kept a.pair.previous r there.0 there.1)
      ]
      | inr last ↦
          let back = ap (λ (q : Pair). q.previous) last.1 in
          let register = ap (λ (q : Pair). q.register) (sym last.1) ∙ a.register in
          elim fits [
            | inl none ↦ inl (back ∙ (none.1 ∙ sym last.0))
            | inr f ↦ inr (
              f.1,
              subst (λ m. IsAscending (more pairs p) m r f.1) (sym (back ∙ f.5))
                  (subst (λ s. IsAscending (more pairs p) f.0 s f.1) register (kept f.0 p.register f.1 f.3)),
            )
          ]
    ]

    last-more : (m n r : ℕ) (u w : ℤ) → (a : IsAscending (more pairs p) n r u)
        → IsAscending (more pairs p) m r w → m < n → (m ≤ a.pair.previous) × (a.pair.previous < n)
    last-more m n r u w a b l = elim (place-split pairs p m b.pair b.at) [
      | inr first ↦ absurd (elim (place-split pairs p n a.pair a.at) [
        | inl was ↦ (let e = first.0 in let within = was.1 in omega (arith, e, l, within))
        | inr last ↦ (let e = first.0 in let same = last.0 in omega (arith, e, l, same))
      ])
      | inl early ↦ elim (place-split pairs p n a.pair a.at) [
        | inl was ↦ are.ascent.last m n r u w (ascending-old pairs p n r u a was.0)
            (ascending-old pairs p m r w b early.0) l
        | inr last ↦
            let register = ap (λ (q : Pair). q.register) (sym last.1) ∙ a.register in
            let all = behind-all m r w register (ascending-old pairs p m r w b early.0) in
            let back = ap (λ (q : Pair). q.previous) last.1 in
            let place = last.0 in
            let first = all.0 in
            let second = all.1 in
            (omega (arith, first, back), omega (arith, second, back, place))
      ]
    ]

    ascends-more : (m n r : ℕ) (u w : ℤ) → IsAscending (more pairs p) m r u → IsAscending (more pairs p) n r w
        → m < n → u <ℤ w
    ascends-more m n r u w a b l = elim (place-split pairs p m a.pair a.at) [
      | inr first ↦ absurd (elim (place-split pairs p n b.pair b.at) [
        | inl was ↦ (let e = first.0 in let within = was.1 in omega (arith, e, l, within))
        | inr last ↦ (let e = first.0 in let same = last.0 in omega (arith, e, l, same))
      ])
      | inl early ↦ elim (place-split pairs p n b.pair b.at) [
        | inl was ↦ are.ascent.ascends m n r u w (ascending-old pairs p m r u a early.0)
            (ascending-old pairs p n r w b was.0) l
        | inr last ↦
            let register = ap (λ (q : Pair). q.register) (sym last.1) ∙ b.register in
            let all = behind-all m r u register (ascending-old pairs p m r u a early.0) in
            let same : v ≡ w =
            (let its = b.value in let is = ap (λ (q : Pair). q.value) last.1 in cc (its, is, value)) in
            subst (λ z. u <ℤ z) same all.2
      ]
    ]

    pub entered-ascending : ArePairs (more pairs p) new_top new_table
    entered-ascending = record {
      ascent = record { back = back-more; last = last-more; ascends = ascends-more };
      tops = λ r t is. elim (set.others r) [
        | inl e ↦ (v, newest t r (let one = set.one in let at = ap new_top e in cc (one, at, is)) (sym e))
        | inr d ↦ (let there = are.tops r t (sym d.1 ∙ is) in (there.0, kept t r there.0 there.1))
      ];
      below = λ n q u at is. elim (place-split pairs p n q at) [
        | inl was ↦
            let b = are.below n q u was.0 is in
            elim (set.others q.register) [
              | inl e ↦
                  let all = behind-all b.0 q.register b.1 (sym e) b.3 in
                  let le = b.4 in
                  let less = all.2 in (
                    length pairs,
                    v,
                    ap new_top e ∙ set.one,
                    newest (length pairs) q.register refl (sym e),
                    omega (arith, ints, le, less),
                  )
              | inr d ↦ (b.0, b.1, d.1 ∙ b.2, kept b.0 q.register b.1 b.3, b.4)
            ]
        | inr last ↦
            let register = ap (λ (s : Pair). s.register) last.1 in
            let same : u ≡ v = (let its = ap (λ (s : Pair). s.value) last.1 in cc (its, is, value)) in (
              length pairs,
              v,
              ap new_top register ∙ set.one,
              newest (length pairs) q.register refl (sym register),
              omega (arith, ints, same),
            )
      ];
      found = λ n q at. elim (place-split pairs p n q at) [
        | inl was ↦ elim (are.found n q was.0) [
          | inl a ↦ inl (a.0, kept n q.register a.0 a.1)
          | inr is ↦ inr (same_table (key_of q) ∙ is)
        ]
        | inr last ↦ inl (v, newest n q.register last.0 (sym (ap (λ (s : Pair). s.register) last.1)))
      ];
      sound =
          λ k n is. let there =
          are.sound k n (sym (same_table k) ∙ is) in
          (there.0, place-kept pairs p n there.0 there.1, there.2);
      distinct = distinct-more;
    }
