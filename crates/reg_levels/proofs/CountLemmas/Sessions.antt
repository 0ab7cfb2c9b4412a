-- The last marks of sessions, with one operation more.
use Rattle.std.proofs.Common.{◌≡◌, ℕ, ◌+◌, List, [], ◌∷◌, ◌++◌, length, slice_get, Option, Some, None}
use Rattle.std.proofs.Common.{◌⊎◌, inl, inr, refl, sym, ap, subst, ◌∙◌, arith}
use Rattle.std.proofs.lemmas.Bool.{cases_order}
use Rattle.history_model.specs.declared.operation.Operation.{Operation}
use Rattle.reg_levels.specs.Clusters.Places.{IsAt}
use Rattle.reg_levels.proofs.ClusterLemmas.Pushes.{length-push, get-push_cases}
use Rattle.reg_levels.specs.Counts.Marks.{AreLastBelow, IsBelow, IsLastBelow, IsLastOfSession, IsPut}
use Rattle.reg_levels.specs.Counts.Marks.{KeepsLast, last_of}
use Rattle.reg_levels.specs.declared.counts.mark.Mark.{Mark}

module _ (ops : List Operation) (marks : List (Option Mark)) (i : ℕ) (b : Operation) (at : IsAt ops i b)
    (found : Option Mark) (mark : slice_get marks i ≡ Some found) where
  -- what is below i + 1 is below i, or it is b's
  below_cases : (t : ℕ) (m : Mark) → IsBelow ops marks (i + 1) t m
      → IsBelow ops marks i t m ⊎ ((b.process ≡ Some t) × (found ≡ Some m))
  below_cases t m h = elim (cases_order h.place i) [
    | inl e ↦
        let same : Some h.operation ≡ Some b = sym h.there ∙ (ap (slice_get ops) e ∙ at) in
        let is : h.operation ≡ b = cc same in
        let which : Some (Some m) ≡ Some found = sym h.mark ∙ (ap (slice_get marks) e ∙ mark) in
        let one : Some m ≡ found = cc which in
        inr (sym (ap (λ (x : Operation). x.process) is) ∙ h.process, sym one)
    | inr o ↦ elim o [
      | inl l ↦ inl (record {
        place = h.place;
        operation = h.operation;
        below = l;
        there = h.there;
        process = h.process;
        mark = h.mark;
      })
      | inr l ↦ let less = h.below in absurd (omega arith)
    ]
  ]

  wider : (t : ℕ) (m : Mark) → IsBelow ops marks i t m → IsBelow ops marks (i + 1) t m
  wider t m h = record {
    place = h.place;
    operation = h.operation;
    below = omega (arith, h.below);
    there = h.there;
    process = h.process;
    mark = h.mark;
  }

  -- b says nothing of t
  same : (t : ℕ) (known : Option Mark) → ((m : Mark) → b.process ≡ Some t → found ≡ Some m → ⊥)
      → IsLastBelow ops marks i t known → IsLastBelow ops marks (i + 1) t known
  same t None never h = λ m k. elim (below_cases t m k) [ inl o ↦ h m o | inr o ↦ never m o.0 o.1 ]
  same t (Some n) never h = (
    wider t n h.0,
    λ m k. elim (below_cases t m k) [
      | inl o ↦ h.1 m o
      | inr o ↦ absurd (never m o.0 o.1)
    ],
  )

  -- b's mark is one more of t's
  here : (t : ℕ) (m : Mark) → b.process ≡ Some t → found ≡ Some m → IsBelow ops marks (i + 1) t m
  here t m e f = record {
    place = i;
    operation = b;
    below = omega arith;
    there = at;
    process = e;
    mark = mark ∙ ap Some f;
  }

  put : (t : ℕ) (m : Mark) → b.process ≡ Some t → found ≡ Some m → (old new : Option Mark) → IsPut old new m
      → IsLastBelow ops marks i t old → IsLastBelow ops marks (i + 1) t new
  put t m e f None new is h = subst (IsLastBelow ops marks (i + 1) t) (sym is) (
    here t m e f,
    λ n k.
        elim (below_cases t n k) [
          | inl o ↦ absurd (h n o)
          | inr o ↦
              let two : Some m ≡ Some n = sym f ∙ o.1 in
              let one : m ≡ n = cc two in
              let z = ap (λ (x : Mark). x.key) one in omega arith
        ],
  )
  put t m e f (Some old) new (inl is) h = subst (IsLastBelow ops marks (i + 1) t) (sym is.0) (
    here t m e f,
    λ n k.
        elim (below_cases t n k) [
          | inl o ↦ let le = h.1 n o in omega (arith, le, is.1)
          | inr o ↦
              let two : Some m ≡ Some n = sym f ∙ o.1 in
              let one : m ≡ n = cc two in
              let z = ap (λ (x : Mark). x.key) one in omega arith
        ],
  )
  put t m e f (Some old) new (inr is) h =
      subst (IsLastBelow ops marks (i + 1) t) (sym is.0) (
        wider t old h.0,
        λ n k.
            elim (below_cases t n k) [
              | inl o ↦ h.1 n o
              | inr o ↦
                  let two : Some m ≡ Some n = sym f ∙ o.1 in
                  let one : m ≡ n = cc two in
                  let z = ap (λ (x : Mark). x.key) one in omega (arith, z, is.1)
            ],
      )

  -- the map of the last marks, with b
  pub last-more : (old new : ℕ → Option Mark) (process : Option ℕ) → b.process ≡ process
      → KeepsLast old new process found → ((t : ℕ) → IsLastBelow ops marks i t (old t)) → (t : ℕ)
      → IsLastBelow ops marks (i + 1) t (new t)
  last-more old new process e keeps h t = go process found refl refl keeps
    where
      go : (p : Option ℕ) (f : Option Mark) → process ≡ p → found ≡ f → KeepsLast old new p f
          → IsLastBelow ops marks (i + 1) t (new t)
      go None f ep ef k =
          subst (IsLastBelow ops marks (i + 1) t) (sym (k t))
          (same t (old t) (λ m q _. let bad : None ≡ Some t = sym ep ∙ (sym e ∙ q) in cc bad) (h t))
      go (Some s) None ep ef k =
          subst (IsLastBelow ops marks (i + 1) t) (sym (k t))
          (same t (old t) (λ m _ q. let bad : None ≡ Some m = sym ef ∙ q in cc bad) (h t))
      go (Some s) (Some m) ep ef k = elim (cases_order t s) [
        | inl q ↦
            put t m (e ∙ (ep ∙ ap Some (sym q))) ef (old t) (new t)
            (subst (λ x. IsPut (old x) (new x) m) (sym q) k.put) (h t)
        | inr o ↦
            let apart : t ≡ s → ⊥ = λ q. elim o [
              | inl l ↦ absurd (omega arith)
              | inr l ↦ absurd (omega
                  arith)
            ] in
            subst (IsLastBelow ops marks (i + 1) t) (sym (k.others t apart))
            (same t (old t) (λ n q _.
            let two : Some s ≡ Some t = sym ep ∙ (sym e ∙ q) in
            let one : s ≡ t = cc two in apart (sym one)) (h t))
      ]

pub last-of : (ops : List Operation) (marks : List (Option Mark)) (i : ℕ) (last : ℕ → Option Mark)
    → ((t : ℕ) → IsLastBelow ops marks i t (last t)) → (a : Operation) (process : Option ℕ)
    → a.process ≡ process → IsLastOfSession ops marks i a (last_of last process)
last-of ops marks i last h a None e = record {
  some = λ t q. let bad : None ≡ Some t = sym e ∙ q in absurd (cc bad);
  none = λ _. refl;
}
last-of ops marks i last h a (Some s) e = record {
  some = λ t q.
      let two : Some s ≡ Some t = sym e ∙ q in
      let one : s ≡ t = cc two in subst (λ x. IsLastBelow ops marks i t (last x)) (sym one) (h t);
  none = λ q. let bad : None ≡ Some s = sym q ∙ e in absurd (cc bad);
}

pub last-pushed : (ops : List Operation) (marks : List (Option Mark)) (i : ℕ) (found : List (Option Mark))
    (m : Option Mark) → ((a : Operation) → IsAt ops i a → IsLastOfSession ops marks i a m)
    → AreLastBelow ops marks i found → AreLastBelow ops marks (i + 1) (found ++ m ∷ [])
last-pushed ops marks i found m is h = record {
  places = omega (arith, h.places, length-push found m);
  each = λ p a n at g. elim (get-push_cases found m n p g) [
    | inl o ↦ h.each p a n at o
    | inr o ↦
        let e = o.0 ∙ h.places in
        subst (IsLastOfSession ops marks p a) o.1
        (subst (λ k. IsLastOfSession ops marks k a m) (sym e) (is a (subst (λ k. IsAt ops k a) e at)))
  ];
}
