-- Clocks after a turn, with the rows given up that no later turn needs.
use Rattle.std.proofs.Common.{◌≡◌, ℕ, zero, suc, ◌+◌, ◌<◌, ◌≤◌, List, [], length, slice_get}
use Rattle.std.proofs.Common.{Option, Some, None, ◌⊎◌, inl, inr, refl, sym, ap, subst, ◌∙◌, arith}
use Rattle.std.proofs.lemmas.Bool.{cases_lt, cases_order}
use Rattle.history_model.specs.declared.operation.Operation.{Operation}
use Rattle.history_model.proofs.Lists.{slice_get_inside}
use Rattle.std.proofs.lemmas.Option.{slice_get_past, slice_get_within}
use Rattle.causal_order.specs.SessionClocks.Clocks.{AreClocks, IsDue, IsHeld, IsRow, IsTaken, entries_of}
use Rattle.causal_order.specs.SessionClocks.Clocks.{row_at}
use Rattle.causal_order.specs.SessionClocks.Rows.{IsPassed}
use Rattle.causal_order.specs.declared.session_clocks.clocks.Clocks.{Clocks}
use Rattle.causal_order.specs.declared.session_clocks.table.SessionTable.{SessionTable}
use Rattle.causal_order.proofs.SessionClockLemmas.Ordered.{split_below}

-- whether an option is this number
pub is-some : (found : Option ℕ) (d : ℕ) → (found ≡ Some d) ⊎ (found ≡ Some d → ⊥)
is-some None d = inr (λ e. cc e)
is-some (Some n) d = elim (cases_order n d) [
  | inl e ↦ inl (ap Some e)
  | inr o ↦ inr (λ e. let same : n ≡ d = cc e in elim o [
    | inl l ↦ omega (arith, same, l)
    | inr l ↦ omega (arith, same, l)
  ])
]

-- what one pass does to the row of an operation that is needed until so many turns passed
one-pass : (old new : Clocks) (t : ℕ) (place : Option ℕ) (h : IsPassed old new t place) (d u : ℕ)
    → slice_get old.until.items d ≡ Some u
    → (row_at new d ≡ row_at old d) ⊎ ((row_at new d ≡ []) × (u ≤ t + 1))
one-pass old new t place h d u e = elim (is-some place d) [
  | inl s ↦ elim (cases_lt (t + 1) u) [
    | inl l ↦ inl (h.kept d u e l)
    | inr l ↦ inr (h.gone d u s e l, l)
  ]
  | inr n ↦ inl (h.other d n)
]

module _ (ops : List Operation) (table : SessionTable) (order : List ℕ) (t p : ℕ) (old : Clocks)
    (y : AreClocks ops table order t (Some p) old) (turn : slice_get order t ≡ Some p)
    (before source : Option ℕ) (is_before : slice_get table.previous.items p ≡ Some before)
    (is_source : slice_get table.sources.items p ≡ Some source) (one two new : Clocks)
    (h : IsPassed old one t (Some p)) (i : IsPassed one two t before) (j : IsPassed two new t source) where
  -- until which turn a row is needed, then and now
  untils : (d : ℕ) → d < length table.numbers.items → (u : ℕ) × (slice_get old.until.items d ≡ Some u)
      × (slice_get one.until.items d ≡ Some u) × (slice_get two.until.items d ≡ Some u)
  untils d l =
      let r = slice_get_inside old.until.items d (omega (arith, l, y.until.places)) in
      let o = ap (λ xs. slice_get xs d) h.until ∙ r.1 in
      (r.0, r.1, o, ap (λ xs. slice_get xs d) i.until ∙ o)

  kept : (d u : ℕ) → slice_get old.until.items d ≡ Some u → t + 1 < u → row_at new d ≡ row_at old d
  kept d u e l =
      let o = ap (λ xs. slice_get xs d) h.until ∙ e in
      let w = ap (λ xs. slice_get xs d) i.until ∙ o in
      j.kept d u w l ∙ (i.kept d u o l ∙ h.kept d u e l)

  -- a row is as it was, or it is gone
  same-or-gone : (d u : ℕ) → slice_get old.until.items d ≡ Some u
      → (row_at new d ≡ row_at old d) ⊎ (row_at new d ≡ [])
  same-or-gone d u e =
      let o = ap (λ xs. slice_get xs d) h.until ∙ e in
      let w = ap (λ xs. slice_get xs d) i.until ∙ o in
      elim (one-pass two new t source j d u w) [
        | inr r ↦ inr r.0
        | inl r ↦ elim (one-pass one two t before i d u o) [
          | inr s ↦ inr (r ∙ s.0)
          | inl s ↦ elim (one-pass old one t (Some p) h d u e) [
            | inr q ↦ inr (r ∙ (s ∙ q.0))
            | inl q ↦ inl (r ∙ (s ∙ q))
          ]
        ]
      ]

  -- what was looked at is gone unless it is needed
  gone : (d u : ℕ) → slice_get old.until.items d ≡ Some u → u ≤ t + 1
      → (Some p ≡ Some d) ⊎ ((before ≡ Some d) ⊎ (source ≡ Some d)) → row_at new d ≡ []
  gone d u e l which =
      let o = ap (λ xs. slice_get xs d) h.until ∙ e in
      let w = ap (λ xs. slice_get xs d) i.until ∙ o in
      elim (one-pass two new t source j d u w) [
        | inr r ↦ r.0
        | inl r ↦ elim (one-pass one two t before i d u o) [
          | inr s ↦ r ∙ s.0
          | inl s ↦ elim which [
            | inl f ↦ r ∙ (s ∙ h.gone d u f e l)
            | inr f ↦ elim f [
              | inl g ↦ r ∙ i.gone d u g o l
              | inr g ↦ j.gone d u g w l
            ]
          ]
        ]
      ]

  -- what is held in the end was held, and is needed later
  module _ (d : ℕ) (held : IsHeld new d) where
    in-range : d < length table.numbers.items
    in-range = elim (cases_lt d (length table.numbers.items)) [
      | inl l ↦ l
      | inr l ↦
          let none = slice_get_past new.rows.items d
          (omega (arith, l, j.rows, i.rows, h.rows, y.sized.rows)) in
          absurd (omega (arith, held, ap (λ o. length (entries_of o)) none))
    ]

    until-of : (u : ℕ) × (slice_get old.until.items d ≡ Some u)
    until-of = let r = untils d in-range in (r.0, r.1)

    same : row_at new d ≡ row_at old d
    same = elim (same-or-gone d until-of.0 until-of.1) [
      | inl e ↦ e
      | inr e ↦ absurd (omega (arith, held, ap length e))
    ]

    was-held : IsHeld old d
    was-held = subst (λ xs. 0 < length xs) same held

    later : t + 1 < until-of.0
    later = elim (cases_lt (t + 1) until-of.0) [
      | inl l ↦ l
      | inr l ↦ absurd (bad l)
    ]
      where
        none-gone : until-of.0 ≤ t + 1 → (Some p ≡ Some d) ⊎ ((before ≡ Some d) ⊎ (source ≡ Some d)) → ⊥
        none-gone l w = omega (arith, held, ap length (gone d until-of.0 until-of.1 l w))

        bad : until-of.0 ≤ t + 1 → ⊥
        bad l = elim (y.only d was-held) [
          | inl e ↦ none-gone l (inl e)
          | inr due ↦
              let needed = due.1 in
              let less = (y.until.each d until-of.0 until-of.1).last needed.0 needed.1
              (slice_get_within order needed.0 needed.1 needed.3) needed.3 needed.4 in
              let now : needed.0 ≡ t = omega (arith, less, l, needed.2) in
              let place : Some needed.1 ≡ Some p = sym needed.3 ∙ (ap (slice_get order) now ∙ turn) in
              let is : needed.1 ≡ p = cc place in
              elim needed.4 [
                | inl a ↦
                    let e : Some before ≡ Some (Some d) = sym is_before
                    ∙ (sym (ap (slice_get table.previous.items) is) ∙ a) in
                    none-gone l (inr (inl (cc e)))
                | inr a ↦
                    let e : Some source ≡ Some (Some d) = sym is_source
                    ∙ (sym (ap (slice_get table.sources.items) is) ∙ a) in
                    none-gone l (inr (inr (cc e)))
              ]
        ]

    pub due-later : IsDue table order (t + 1) None d
    due-later = go until-of.0 refl
      where
        taken : IsTaken order (t + 1) d
        taken = elim (y.only d was-held) [
          | inl e ↦ (t, omega arith, turn ∙ e)
          | inr due ↦ (due.0.0, omega (arith, due.0.1), due.0.2)
        ]

        go : (u : ℕ) → until-of.0 ≡ u → IsDue table order (t + 1) None d
        go zero e = absurd (omega (arith, later, e))
        go (suc k) e =
            let r = (y.until.each d until-of.0 until-of.1).is k e in
            inr (taken, (k, r.1.0, omega (arith, later, e), r.1.1, r.1.2))

  pub given-up : AreClocks ops table order (t + 1) None new
  given-up = record {
    learning = y.learning;
    sized = record {
      in_range = y.sized.in_range;
      rows = j.rows ∙ (i.rows ∙ (h.rows ∙ y.sized.rows));
      until = ap length (j.until ∙ (i.until ∙ h.until)) ∙ y.sized.until;
      held = j.held;
    };
    until = record {
      places = ap length (j.until ∙ (i.until ∙ h.until)) ∙ y.until.places;
      each = λ d u g. y.until.each d u (sym (ap (λ xs. slice_get xs d) (j.until ∙ (i.until ∙ h.until))) ∙ g);
    };
    exact = λ d b at held.
        subst (IsRow ops table b) (sym (same d held)) (y.exact d b at (was-held d held));
    only = λ d held. due-later d held;
    all = λ d s session due. elim due [
      | inl bad ↦ absurd (cc bad)
      | inr more ↦
          let r = untils d (slice_get_within table.numbers.items d (Some s) session) in
          let less = (y.until.each d r.0 r.1).last more.1.0 more.1.1
          (slice_get_within order more.1.0 more.1.1 more.1.3) more.1.3 more.1.4 in
          subst (λ xs. 0 < length xs) (sym (kept d r.0 r.1 (omega (arith, less, more.1.2))))
          (y.all d s session (elim (split_below more.0.0 t (omega (arith, more.0.1))) [
            | inr e ↦ inl (sym turn ∙ (sym (ap (slice_get order) e) ∙ more.0.2))
            | inl l ↦ inr (
              (more.0.0, l, more.0.2),
              (
                more.1.0,
                more.1.1,
                omega (arith, more.1.2),
                more.1.3,
                more.1.4,
              ),
            )
          ]))
    ];
  }
