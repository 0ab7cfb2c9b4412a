-- An append keeps a family of lists threaded.
use Rattle.std.proofs.Common.{◌≡◌, ℕ, ◌+◌, ◌<◌, ◌≤◌, Option, Some, None}
use Rattle.std.proofs.Common.{inl, inr, refl, sym, ap, subst, ◌∙◌, arith}
use Rattle.std.proofs.lemmas.Bool.{cases_order, cases_eq}
use Rattle.history_model.specs.declared.ids.EvId.{EvId}
use Rattle.reg_arena.specs.declared.event_lists.list_ends.Ends.{Ends}
use Rattle.history_model.specs.Walking.{IsLeastFrom}
use Rattle.reg_arena.specs.Lists.EventLists.{IsThreaded, IsJoined}

-- what an append of an event does to the keys
pub record IsPushed {K : Type 0} (n : ℕ) (k : Option K) (key new_key : ℕ → Option K) : Type 0 where
  pub past : (i : ℕ) → n ≤ i → key i ≡ None
  pub same : (i : ℕ) → (i ≡ n → ⊥) → new_key i ≡ key i
  pub new : new_key n ≡ k

module _ {K : Type 0} (n : EvId) (key new_key : ℕ → Option K) (link : ℕ → Option EvId) (ends : K
    → Option Ends) (t : IsThreaded key link ends) (none : link n.0 ≡ None) where
  below : (k : Option K) → IsPushed n.0 k key new_key → (q : K) (i : ℕ) → key i ≡ Some q → i < n.0
  below k p q i h = elim (cases_order i n.0) [
    | inl e ↦ absurd (let past = p.past i (omega arith) in cc (past, h))
    | inr c ↦ elim c [ inl l ↦ l | inr g ↦ absurd (let past = p.past i (omega arith) in cc (past, h)) ]
  ]

  old : (k : Option K) → IsPushed n.0 k key new_key → (q : K) (i : ℕ) → key i ≡ Some q → new_key i ≡ Some q
  old k p q i h = let l = below k p q i h in p.same i (λ e. omega arith) ∙ h

  -- a link that was right and does not meet the new event is right
  kept : (P Q : ℕ → Type 0) (m : ℕ) (o : Option EvId) → m ≤ n.0 → ((i : ℕ) → P i → Q i)
      → ((i : ℕ) → (i ≡ n.0 → ⊥) → Q i → P i) → ((i : ℕ) → P i → i < n.0) → (Q n.0 → o ≡ None → ⊥)
      → IsLeastFrom P m o → IsLeastFrom Q m o
  kept P Q m None le up down top clash h =
      λ i l q. elim (cases_eq i n.0) [ inl e ↦ clash (subst Q e q) refl | inr ne ↦ h i l (down i ne q) ]
  kept P Q m (Some j) le up down top clash h =
      (h.0, up j.0 h.1, λ i l g q. let b = top j.0 h.1 in h.2 i l g (down i (λ e. omega arith) q))

  -- an event that joins no list
  pub threaded-alone : IsPushed n.0 None key new_key → IsThreaded new_key link ends
  threaded-alone p =
      let back : (q : K) (i : ℕ) → new_key i ≡ Some q → key i ≡ Some q = λ q i h. elim (cases_eq i n.0) [
        | inl e ↦ absurd (let w = p.new in let x : new_key i ≡ None = ap new_key e ∙ w in cc (x, h))
        | inr ne ↦ sym (p.same i ne) ∙ h
      ] in
      record {
        next =
            λ k i h. let o =
            back k i h in let b =
            below None p k i o in
            kept (λ j. key j ≡ Some k) (λ j. new_key j ≡ Some k) (i + 1) (link i) (omega arith)
            (old None p k) (λ j _ q. back k j q) (below None p k) (λ q _. let w = p.new in
            cc (w, q)) (t.next k i o);
        alone =
            λ i h. elim (cases_eq i n.0) [
              | inl e ↦ ap link e ∙ none
              | inr ne ↦ t.alone i (sym (p.same i ne) ∙ h)
            ];
        none = λ k h i q. t.none k h i (back k i q);
        first =
            λ k e h. let f =
            t.first k e h in (f.0, old None p k e.first.0 f.1, λ i l g q. f.2 i l g (back k i q));
        last = λ k e h. let f = t.last k e h in (old None p k e.last.0 f.0, λ i q. f.1 i (back k i q));
      }

  -- an event that joins the list of its key
  module _ (k : K) (new_link : ℕ → Option EvId) (new_ends : K
      → Option Ends) (p : IsPushed n.0 (Some k) key new_key)
      (j : IsJoined k n link new_link ends new_ends) where
    back : (q : K) (i : ℕ) → (i ≡ n.0 → ⊥) → new_key i ≡ Some q → key i ≡ Some q
    back q i ne h = sym (p.same i ne) ∙ h

    key_is : (q : K) → new_key n.0 ≡ Some q → q ≡ k
    key_is q h = let w = p.new in cc (w, h)

    -- only the last event of the list gets another link
    unchanged : (o : Option Ends) → ends k ≡ o → (i : ℕ) → (key i ≡ Some k → ⊥) → new_link i ≡ link i
    unchanged None h i f = (j.fresh h).1 i
    unchanged (Some e) h i f = (j.next e h).2 i (λ q. f (ap key q ∙ (t.last k e h).0))

    new_none : new_link n.0 ≡ None
    new_none = unchanged (ends k) refl n.0 (λ h. let w = p.past n.0 (omega arith) in cc (w, h)) ∙ none

    next_of : (o : Option Ends) → ends k ≡ o → (q : K) (i : ℕ) → key i ≡ Some q
        → IsLeastFrom (λ j. new_key j ≡ Some q) (i + 1) (new_link i)
    next_of None h q i x =
        let b = below (Some k) p q i x in
        subst (IsLeastFrom (λ j. new_key j ≡ Some q) (i + 1)) (sym ((j.fresh h).1 i))
        (kept (λ j. key j ≡ Some q) (λ j. new_key j ≡ Some q) (i + 1) (link i) (omega arith)
        (old (Some k) p q) (back q) (below (Some k) p q) (λ c _. let s = key_is q c in
        t.none k h i (subst (λ v. key i ≡ Some v) s x)) (t.next q i x))
    next_of (Some e) h q i x =
        let b = below (Some k) p q i x in
        let l = t.last k e h in
        elim (cases_eq i e.last.0) [
          | inl s ↦
              let same : q ≡ k = let y = l.0 in let z : key i ≡ Some k = ap key s ∙ y in cc (x, z) in
              subst (IsLeastFrom (λ j. new_key j ≡ Some q) (i + 1)) (sym (ap new_link s ∙ (j.next e h).1)) (
                omega arith,
                p.new ∙ ap Some (sym same),
                λ m le lt y. let top =
                    l.1 m (subst (λ v. key m ≡ Some v) same (back q m (λ c. omega arith) y)) in omega arith,
              )
          | inr ne ↦
              subst (IsLeastFrom (λ j. new_key j ≡ Some q) (i + 1)) (sym ((j.next e h).2 i ne))
              (kept (λ j. key j ≡ Some q) (λ j. new_key j ≡ Some q) (i + 1) (link i) (omega arith)
              (old (Some k) p q) (back q) (below (Some k) p q)
              (λ c z. let s = key_is q c in
              let top = l.1 i (subst (λ v. key i ≡ Some v) s x) in
              subst (IsLeastFrom (λ j. key j ≡ Some q) (i + 1)) z (t.next q i x) e.last.0 (omega arith) (l.0
              ∙ ap Some (sym s)))
              (t.next q i x))
        ]

    -- what the ends of the list are then
    record IsTop (e : Ends) : Type 0 where
      is : new_ends k ≡ Some e
      last : e.last.0 ≡ n.0
      first : IsLeastFrom (λ j. new_key j ≡ Some k) 0 (Some e.first)

    top_of : (o : Option Ends) → ends k ≡ o → (e : Ends) × IsTop e
    top_of None h = (
      record { first = n; last = n },
      record {
        is = (j.fresh h).0;
        last = refl;
        first = (omega arith, p.new, λ i _ lt q. t.none k h i (back k i (λ c. omega arith) q));
      },
    )
    top_of (Some e) h =
        let f =
        t.first k e h in let b =
        below (Some k) p k e.first.0 f.1 in (
          record { first = e.first; last = n },
          record {
            is = (j.next e h).0;
            last = refl;
            first = (
              omega arith,
              old (Some k) p k e.first.0 f.1,
              λ i l lt q. f.2 i l lt (back k i (λ c. omega arith) q),
            );
          },
        )

    is_top : (e : Ends) → new_ends k ≡ Some e → IsTop e
    is_top e h =
        let x = top_of (ends k) refl in let w = x.1.is in let s : x.0 ≡ e = cc (w, h) in subst IsTop s x.1

    at_most : (q : K) (i : ℕ) → new_key i ≡ Some q → i ≤ n.0
    at_most q i h =
        elim (cases_eq i n.0) [
          | inl e ↦ omega arith
          | inr ne ↦ let b = below (Some k) p q i (back q i ne h) in
              omega arith
        ]

    pub threaded-joined : IsThreaded new_key new_link new_ends
    threaded-joined = record {
      next = λ q i h. elim (cases_eq i n.0) [
        | inl e ↦ subst (IsLeastFrom (λ j. new_key j ≡ Some q) (i + 1)) (sym (ap new_link e ∙ new_none))
            (λ m le y. let b = at_most q m y in omega arith)
        | inr ne ↦ next_of (ends k) refl q i (back q i ne h)
      ];
      alone = λ i h. elim (cases_eq i n.0) [
        | inl e ↦ ap new_link e ∙ new_none
        | inr ne ↦ let x = sym (p.same i ne) ∙ h in unchanged (ends k) refl i (λ c. cc (x, c)) ∙ t.alone i x
      ];
      none = λ q h i x. elim (j.others q) [
        | inl s ↦ let y = top_of (ends k) refl in let w = y.1.is in
            let z : new_ends k ≡ None = ap new_ends (sym s) ∙ h in cc (w, z)
        | inr o ↦ elim (cases_eq i n.0) [
          | inl e ↦ o.0 (key_is q (ap new_key (sym e) ∙ x))
          | inr ne ↦ t.none q (sym o.1 ∙ h) i (back q i ne x)
        ]
      ];
      first = λ q e h. elim (j.others q) [
        | inl s ↦ subst (λ v. IsLeastFrom (λ j. new_key j ≡ Some v) 0 (Some e.first)) (sym s)
            (is_top e (ap new_ends (sym s) ∙ h)).first
        | inr o ↦ let f = t.first q e (sym o.1 ∙ h) in let b = below (Some k) p q e.first.0 f.1 in
            (f.0, old (Some k) p q e.first.0 f.1, λ i l lt x. f.2 i l lt (back q i (λ c. omega arith) x))
      ];
      last = λ q e h. elim (j.others q) [
        | inl s ↦ let y = (is_top e (ap new_ends (sym s) ∙ h)).last in
            (ap new_key y ∙ (p.new ∙ ap Some (sym s)), λ i x. let b = at_most q i x in omega arith)
        | inr o ↦ let f = t.last q e (sym o.1 ∙ h) in (
          old (Some k) p q e.last.0 f.0,
          λ i x. f.1 i (back q i (λ c. o.0 (key_is q (ap new_key (sym c) ∙ x))) x),
        )
      ];
    }
