-- The last turns in which rows are needed, with one turn more, and clocks before the first.
use Rattle.std.proofs.Common.{◌≡◌, ℕ, suc, ◌+◌, List, [], ◌∷◌, length, slice_get, replicate, Vec, Global}
use Rattle.std.proofs.Common.{Option, Some, None, inl, inr, refl, sym, ap, subst, ◌∙◌, arith}
use Rattle.std.proofs.lemmas.List.{get_or-replicate, length-replicate}
use Rattle.std.proofs.lemmas.Option.{get_or_from_slice_get, slice_get_past, slice_get_within}
use Rattle.std.proofs.lemmas.Bool.{cases_lt}
use Rattle.history_model.specs.declared.operation.Operation.{Operation}
use Rattle.history_model.proofs.Lists.{slice_get_inside}
use Rattle.reg_levels.proofs.ClusterLemmas.Places.{at-below}
use Rattle.causal_order.specs.SessionClocks.Clocks.{AreClocks, AreLastTurns, Asks, IsHeld, IsLastTurn}
use Rattle.causal_order.specs.SessionClocks.Clocks.{IsLearning}
use Rattle.causal_order.specs.SessionClocks.Clocks.{IsTableInRange, entries_of, full_rows, one_if_some}
use Rattle.causal_order.specs.SessionClocks.Rows.{AreEmpty, IsMarked}
use Rattle.causal_order.specs.declared.session_clocks.clocks.Clocks.{Clocks}
use Rattle.causal_order.specs.declared.session_clocks.table.SessionTable.{SessionTable}
use Rattle.causal_order.proofs.SessionClockLemmas.Giving.{is-some}
use Rattle.causal_order.proofs.SessionClockLemmas.Ordered.{split_below}

-- the table of the sessions of operations is in range
pub in-range : (ops : List Operation) (table : SessionTable) (order : List ℕ) → IsLearning ops table order
    → IsTableInRange table
in-range ops table order y = record {
  few = omega (arith, y.few, y.sessions.numbers);
  numbers = y.sessions.below;
  previous = y.sessions.previous ∙ sym y.sessions.numbers;
  sources = y.sessions.sources ∙ sym y.sessions.numbers;
  before = λ p d asks. elim asks [
    | inl a ↦
        let within = slice_get_within table.previous.items p (Some d) a in
        let b = slice_get_inside ops p (omega (arith, within, y.sessions.previous)) in
        let is = y.sessions.each_previous p b.0 (Some d) b.1 a in
        omega (arith, is.2, within, y.sessions.previous, y.sessions.numbers)
    | inr a ↦
        let within = slice_get_within table.sources.items p (Some d) a in
        let b = slice_get_inside ops p (omega (arith, within, y.sessions.sources)) in
        let is = y.sessions.each_source p b.0 (Some d) b.1 a in
        omega (arith, at-below ops d is.0 is.1, y.sessions.numbers)
  ];
}

pub last-none : (table : SessionTable) (order until : List ℕ)
    → until ≡ replicate (length table.numbers.items) 0 → AreLastTurns table order 0 until
last-none table order until e = record {
  places = ap length e ∙ length-replicate (length table.numbers.items) 0;
  each = λ d u g.
      let at = sym (ap (λ xs. slice_get xs d) e) ∙ g in
      let within = slice_get_within (replicate (length table.numbers.items) 0) d u at in
      let n = length-replicate {A = ℕ} (length table.numbers.items) 0 in
      let none = get_or-replicate {A = ℕ} (length table.numbers.items) d 0 0 (omega (arith, within, n)) in
      let is = get_or_from_slice_get (replicate (length table.numbers.items) 0) d u 0 at in
      record {
        last = λ j p l. absurd (omega (arith, l));
        is = λ j k. absurd (omega (arith, k, none, is));
      };
}

module _ (table : SessionTable) (order : List ℕ) (i p : ℕ) (turn : slice_get order i ≡ Some p) where
  marked : (d u : ℕ) → u ≡ suc i → Asks table p d → IsLastTurn table order (i + 1) d u
  marked d u e asks = record {
    last = λ j q l at a. omega (arith, l, e);
    is = λ j k.
        let now : j ≡ i = omega (arith, k, e) in
        (omega (arith, now), (p, ap (slice_get order) now ∙ turn, asks));
  }

  widened : (d u : ℕ) → (Asks table p d → ⊥) → IsLastTurn table order i d u → IsLastTurn table order
      (i + 1) d u
  widened d u never h = record {
    last = λ j q l at a. elim (split_below j i (omega (arith, l))) [
      | inl m ↦ h.last j q m at a
      | inr m ↦
          let place : Some q ≡ Some p = sym at ∙ (ap (slice_get order) m ∙ turn) in
          let is : q ≡ p = cc place in absurd (never (subst (λ n. Asks table n d) is a))
    ];
    is = λ j k. let r = h.is j k in (omega (arith, r.0), r.1);
  }

  pub last-more : (before source : Option ℕ) (old one new : List ℕ)
      → slice_get table.previous.items p ≡ Some before → slice_get table.sources.items p ≡ Some source
      → IsMarked old one before i → IsMarked one new source i → AreLastTurns table order i old
      → AreLastTurns table order (i + 1) new
  last-more before source old one new is_before is_source h k y = record {
    places = k.places ∙ (h.places ∙ y.places);
    each = λ d u g. elim (is-some source d) [
      | inl s ↦
          let same : Some u ≡ Some (suc i) = sym g ∙ k.at d s in
          marked d u (cc same) (inr (is_source ∙ ap Some s))
      | inr n ↦
          let g-one = sym (k.other d n) ∙ g in
          elim (is-some before d) [
            | inl s ↦
                let same : Some u ≡ Some (suc i) = sym g-one ∙ h.at d s in
                marked d u (cc same) (inl (is_before ∙ ap Some s))
            | inr m ↦ widened d u (λ asks. elim asks [
              | inl a ↦ let e : Some before ≡ Some (Some d) = sym is_before ∙ a in m (cc e)
              | inr a ↦ let e : Some source ≡ Some (Some d) = sym is_source ∙ a in n (cc e)
            ]) (y.each d u (sym (h.other d m) ∙ g-one))
          ]
    ];
  }

full-none : (rows : List (Vec ℕ Global)) → AreEmpty rows → full_rows rows ≡ 0
full-none [] h = refl
full-none (row ∷ rows) h =
    omega (arith, ap one_if_some (h 0 row refl), full-none rows (λ p r e. h (suc p) r e))

-- clocks without a row
pub begun : (ops : List Operation) (table : SessionTable) (order : List ℕ) (clocks : Clocks)
    → IsLearning ops table order → length clocks.rows.items ≡ length table.numbers.items
    → AreEmpty clocks.rows.items → AreLastTurns table order (length order) clocks.until.items
    → clocks.held ≡ 0 → AreClocks ops table order 0 None clocks
begun ops table order clocks y rows empty until held = record {
  learning = y;
  sized = record {
    in_range = in-range ops table order y;
    rows = rows;
    until = until.places;
    held = held ∙ sym (full-none clocks.rows.items empty);
  };
  until = until;
  exact = λ d b at h. absurd (none d h);
  only = λ d h. absurd (none d h);
  all = λ d s session due. elim due [
    | inl e ↦ absurd (cc e)
    | inr more ↦ absurd (omega (arith, more.0.1))
  ];
}
  where
    none : (d : ℕ) → IsHeld clocks d → ⊥
    none d h = elim (cases_lt d (length clocks.rows.items)) [
      | inl l ↦
          let r = slice_get_inside clocks.rows.items d l in
          omega (arith, h, ap (λ o. length (entries_of o)) r.1, ap length (empty d r.0 r.1))
      | inr l ↦ omega (arith, h, ap (λ o. length (entries_of o)) (slice_get_past clocks.rows.items d l))
    ]
