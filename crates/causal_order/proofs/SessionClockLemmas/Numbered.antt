-- Numbers of sessions, with one operation more.
use Rattle.std.proofs.Common.{◌≡◌, ℕ, ◌+◌, ◌<◌, ◌==◌, true, cond, List, [], ◌∷◌, ◌++◌}
use Rattle.std.proofs.Common.{length, slice_get, Option, Some, None, nat_eq, option_and_then}
use Rattle.std.specs.Option.{option_eq}
use Rattle.std.proofs.Common.{◌⊎◌, inl, inr, refl, sym, ap, ◌∙◌, arith}
use Rattle.std.proofs.lemmas.Bool.{cases_Bool, eqb-true, eq-eqb, false≢true}
use Rattle.history_model.specs.declared.operation.Operation.{Operation}
use Rattle.history_model.proofs.Lists.{slice_get-push}
use Rattle.std.proofs.lemmas.Option.{slice_get_within}
use Rattle.reg_levels.proofs.ClusterLemmas.Pushes.{get-push, get-push_cases, length-push}
use Rattle.causal_order.specs.SessionClocks.Sessions.{IsAt}
use Rattle.causal_order.specs.SessionClocks.Steps.{AreNumbers, IsNumbered}
use Rattle.causal_order.proofs.SessionClockLemmas.Ordered.{at-one, split_below}

-- what a test for a number tells
pub equal-some : (o : Option ℕ) (n : ℕ) → option_eq nat_eq o (Some n) ≡ true → o ≡ Some n
equal-some None n h = absurd (false≢true h)
equal-some (Some m) n h = ap Some (eqb-true m n h)

pub some-equal : (o : Option ℕ) (n : ℕ) → o ≡ Some n → option_eq nat_eq o (Some n) ≡ true
some-equal o n e = ap (λ x. option_eq nat_eq x (Some n)) e ∙ eq-eqb n n refl

module _ (ops : List Operation) (i count : ℕ) (old new : ℕ → Option ℕ) (numbers : List (Option ℕ))
    (a : Operation) (at : IsAt ops i a) (number : Option ℕ) (h : AreNumbers ops i count old numbers)
    (is : IsNumbered old new count a.process number) where
  -- the number is that which the process has in the end, and no process lost the one that it had
  record IsKept : Type 0 where
    pub own : number ≡ option_and_then new a.process
    pub some : (x : ℕ) → a.process ≡ Some x → (s : ℕ) × (new x ≡ Some s)
    pub same : (x s : ℕ) → old x ≡ Some s → new x ≡ Some s
    pub cases : (x s : ℕ) → new x ≡ Some s
        → (old x ≡ Some s) ⊎ ((a.process ≡ Some x) × (old x ≡ None) × (s ≡ count) × (number ≡ Some count))

  kept-by : (o : Option ℕ) → a.process ≡ o → IsNumbered old new count o number → IsKept
  kept-by None e n = record {
    own = n.0 ∙ ap (option_and_then new) (sym e);
    some = λ x f. let bad : None ≡ Some x = sym e ∙ f in absurd (cc bad);
    same = λ x s f. n.1 x ∙ f;
    cases = λ x s f. inl (sym (n.1 x) ∙ f);
  }
  kept-by (Some z) e (inl n) = record {
    own = n.2 ∙ (sym (n.3 z ∙ n.1) ∙ ap (option_and_then new) (sym e));
    some = λ x f.
        let same : Some z ≡ Some x = sym e ∙ f in
        let one : z ≡ x = cc same in (n.0, n.3 x ∙ (ap old (sym one) ∙ n.1));
    same = λ x s f. n.3 x ∙ f;
    cases = λ x s f. inl (sym (n.3 x) ∙ f);
  }
  kept-by (Some z) e (inr n) = record {
    own = n.1 ∙ (sym (own z refl) ∙ ap (option_and_then new) (sym e));
    some = λ x f. let same : Some z ≡ Some x = sym e ∙ f in let one : z ≡ x = cc same in (count, own x one);
    same = λ x s f. elim (cases_Bool (z == x)) [
      | inl t ↦
          let one = eqb-true z x t in
          let bad : None ≡ Some s = sym n.0 ∙ (ap old one ∙ f) in absurd (cc bad)
      | inr t ↦ n.2 x ∙ (ap (λ b. cond b (Some count) (old x)) t ∙ f)
    ];
    cases = λ x s f. elim (cases_Bool (z == x)) [
      | inl t ↦
          let one = eqb-true z x t in
          let gives : Some count ≡ Some s = sym (own x one) ∙ f in
          let same : count ≡ s = cc gives in
          inr (e ∙ ap Some one, ap old (sym one) ∙ n.0, sym same, n.1)
      | inr t ↦ inl (sym (ap (λ b. cond b (Some count) (old x)) t) ∙ (sym (n.2 x) ∙ f))
    ];
  }
    where
      own : (x : ℕ) → z ≡ x → new x ≡ Some count
      own x one = n.2 x ∙ ap (λ b. cond b (Some count) (old x)) (eq-eqb z x one)

  kept : IsKept
  kept = kept-by a.process refl is

  each-more : (p : ℕ) (b : Operation) (n : Option ℕ) → IsAt ops p b
      → slice_get (numbers ++ number ∷ []) p ≡ Some n → n ≡ option_and_then new b.process
  each-more p b n at-b g = elim (get-push_cases numbers number n p g) [
    | inr m ↦
        let one = at-one ops i a b at (sym (ap (slice_get ops) (m.0 ∙ h.places)) ∙ at-b) in
        sym m.1 ∙ (kept.own ∙ ap (λ (o : Operation). option_and_then new o.process) one)
    | inl m ↦ go b.process refl (h.each p b n at-b m) (h.total p)
  ]
    where
      within : (l : slice_get numbers p ≡ Some n) → p < i
      within l = omega (arith, slice_get_within numbers p n l, h.places)

      go : (o : Option ℕ) → b.process ≡ o → n ≡ option_and_then old b.process
          → ((x : ℕ) (c : Operation) → p < i → IsAt ops p c → c.process ≡ Some x → (s : ℕ) × (old x ≡ Some s))
          → n ≡ option_and_then new b.process
      go None e f t = f ∙ (ap (option_and_then old) e ∙ ap (option_and_then new) (sym e))
      go (Some x) e f t = elim (get-push_cases numbers number n p g) [
        | inl m ↦
            let s = t x b (within m) at-b e in
            f ∙ (ap (option_and_then old) e
            ∙ (s.1 ∙ (sym (kept.same x s.0 s.1) ∙ ap (option_and_then new) (sym e))))
        | inr m ↦
            let one = at-one ops i a b at (sym (ap (slice_get ops) (m.0 ∙ h.places)) ∙ at-b) in
            sym m.1 ∙ (kept.own ∙ ap (λ (o : Operation). option_and_then new o.process) one)
      ]

  total-more : (p x : ℕ) (b : Operation) → p < i + 1 → IsAt ops p b → b.process ≡ Some x
      → (s : ℕ) × (new x ≡ Some s)
  total-more p x b l at-b e = elim (split_below p i (omega (arith, l))) [
    | inl m ↦ let s = h.total p x b m at-b e in (s.0, kept.same x s.0 s.1)
    | inr m ↦
        let one = at-one ops i a b at (sym (ap (slice_get ops) m) ∙ at-b) in
        kept.some x (ap (λ (o : Operation). o.process) one ∙ e)
  ]

  -- a new session
  pub numbers-new : number ≡ Some count → AreNumbers ops (i + 1) (count + 1) new (numbers ++ number ∷ [])
  numbers-new e = record {
    places = omega (arith, length-push numbers number, h.places);
    few = omega (arith, h.few);
    each = each-more;
    total = total-more;
    below = λ x s f. elim (kept.cases x s f) [
      | inl o ↦ omega (arith, h.below x s o)
      | inr o ↦ omega (arith, o.2)
    ];
    apart = λ x y s f g. elim (kept.cases x s f) [
      | inl o ↦ elim (kept.cases y s g) [
        | inl q ↦ h.apart x y s o q
        | inr q ↦ absurd (omega (arith, h.below x s o, q.2))
      ]
      | inr o ↦ elim (kept.cases y s g) [
        | inl q ↦ absurd (omega (arith, h.below y s q, o.2))
        | inr q ↦ let same : Some x ≡ Some y = sym o.0 ∙ q.0 in cc same
      ]
    ];
    used = λ s l. elim (split_below s count (omega (arith, l))) [
      | inl m ↦ let r = h.used s m in (r.0, get-push numbers number (Some s) r.0 r.1)
      | inr m ↦ (
        length numbers,
        slice_get-push numbers number ∙ ap Some (e ∙ ap Some (sym m)),
      )
    ];
  }

  -- a session that is known, or none
  pub numbers-same : (number ≡ Some count → ⊥) → AreNumbers ops (i + 1) count new (numbers ++ number ∷ [])
  numbers-same never = record {
    places = omega (arith, length-push numbers number, h.places);
    few = omega (arith, h.few);
    each = each-more;
    total = total-more;
    below = λ x s f. h.below x s (known x s f);
    apart = λ x y s f g. h.apart x y s (known x s f) (known y s g);
    used = λ s l. let r = h.used s l in (r.0, get-push numbers number (Some s) r.0 r.1);
  }
    where
      known : (x s : ℕ) → new x ≡ Some s → old x ≡ Some s
      known x s f = elim (kept.cases x s f) [ inl o ↦ o | inr o ↦ absurd (never o.3) ]

pub numbers-none : (ops : List Operation) (known : ℕ → Option ℕ) (numbers : List (Option ℕ)) → numbers ≡ []
    → ((x : ℕ) → known x ≡ None) → AreNumbers ops 0 0 known numbers
numbers-none ops known numbers e none = record {
  places = ap length e;
  few = omega arith;
  each = λ p a n at g. let bad = sym (ap (λ xs. slice_get xs p) e) ∙ g in absurd (cc bad);
  total = λ p x a l. absurd (omega (arith, l));
  below = λ x s f. let bad = sym (none x) ∙ f in absurd (cc bad);
  apart = λ x y s f. let bad = sym (none x) ∙ f in absurd (cc bad);
  used = λ s l. absurd (omega (arith, l));
}
