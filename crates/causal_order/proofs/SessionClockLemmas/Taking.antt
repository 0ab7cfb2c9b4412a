-- Clocks with the row of one operation more.
use Rattle.std.proofs.Common.{◌≡◌, ◌↔◌, ℕ, suc, ◌<◌, ◌≤◌, max, List, length, slice_get, get_or}
use Rattle.std.proofs.Common.{Option, Some, None, ◌⊎◌, inl, inr, refl, sym, ap, subst, ◌∙◌, arith}
use Rattle.std.proofs.lemmas.Bool.{cases_lt, cases_order}
use Rattle.std.proofs.lemmas.Option.{get_or_from_slice_get}
use Rattle.std.proofs.Math.Nat.{le-max_left, le-max_right, max-eq_left, max-eq_right}
use Rattle.history_model.specs.declared.operation.Operation.{Operation}
use Rattle.history_model.proofs.Lists.{slice_get-In, slice_get_inside}
use Rattle.level_laws.specs.Causal.{Knows}
use Rattle.reg_levels.proofs.ClusterLemmas.Places.{at-below}
use Rattle.causal_order.specs.SessionClocks.Clocks.{AreClocks, Asks, IsHeld, IsRow, row_at}
use Rattle.causal_order.specs.SessionClocks.Rows.{IsHolding, IsMade, entry_of, found_at, row_of}
use Rattle.causal_order.specs.SessionClocks.Sessions.{HasSession, IsAt, IsPrevious, IsSourceAt}
use Rattle.causal_order.specs.declared.session_clocks.clocks.Clocks.{Clocks}
use Rattle.causal_order.specs.declared.session_clocks.table.SessionTable.{SessionTable}
use Rattle.causal_order.proofs.SessionClockLemmas.Held.{none-none}
use Rattle.causal_order.proofs.SessionClockLemmas.Learned.{IsKnownBy, before-known, initial-knows}
use Rattle.causal_order.proofs.SessionClockLemmas.Learned.{known-further, known-own}
use Rattle.causal_order.proofs.SessionClockLemmas.Learned.{own-known, session-process, source-known}
use Rattle.causal_order.proofs.SessionClockLemmas.Ordered.{at-one}

-- which of two numbers is greater than k, if the greater one is
max-cases : (k m n : ℕ) → k < max m n → (k < m) ⊎ (k < n)
max-cases k m n l = elim (cases_lt m n) [
  | inl less ↦
      let le : m ≤ n = omega (arith, less) in
      let e : max m n ≡ n = max-eq_right le in inr (omega (arith, e, l))
  | inr more ↦ let e : max m n ≡ m = max-eq_left more in inl (omega (arith, e, l))
]

-- a row says which operations are known by what was found
abbrev pub SaysKnown : List Operation → SessionTable → Option ℕ → List ℕ → Type 0
SaysKnown ops table found row = (k q : ℕ) (a : Operation) → IsAt ops k a → HasSession table k q
    → ((k < get_or row q 0) ↔ IsKnownBy ops found a)

module _ (ops : List Operation) (table : SessionTable) (order : List ℕ) (t : ℕ) (clocks : Clocks)
    (y : AreClocks ops table order t None clocks) (p : ℕ) (turn : slice_get order t ≡ Some p) where
  -- what the operation of this turn learns of at once is held, if somebody called it
  held-asked : (d x : ℕ) (c : Operation) → Asks table p d → IsAt ops d c → c.process ≡ Some x
      → IsHeld clocks d
  held-asked d x c asks at e =
      let session = y.learning.sessions.some d x c at e in
      y.all d session.0 session.1
      (inr (y.learning.turns.after t p d turn asks, (t, p, omega arith, turn, asks)))

  pub says-known : (found : Option ℕ) → ((d : ℕ) → found ≡ Some d → Asks table p d)
      → SaysKnown ops table found (row_of clocks found)
  says-known None asks k q a at session = (
    λ l. absurd (omega (arith, l)),
    λ h. let bad : None ≡ Some h.0 = h.2 in absurd (cc bad),
  )
  says-known (Some d) asks k q a at session = elim (cases_lt 0 (length (row_at clocks d))) [
    | inl held ↦
        let c =
        slice_get_inside ops d (omega (
          arith,
          y.sized.in_range.before p d (asks d refl),
          y.learning.sessions.numbers,
        )) in
        let is = (y.exact d c.0 c.1 held).known k q a at session in (
          λ l. (d, c.0, refl, c.1, is.0 l),
          λ h.
              let place : Some d ≡ Some h.0 = h.2 in
              let one : d ≡ h.0 = cc place in
              let same = at-one ops d h.1 c.0 (ap (slice_get ops) one ∙ h.3) c.1 in
              is.1 (elim h.4 [ inl u ↦ inl (u ∙ same) | inr u ↦ inr (subst (Knows ops a) same u) ]),
        )
    | inr none ↦
        let empty = none-none (row_at clocks d) (omega (arith, none)) in (
          λ l.
              let no = ap (λ xs. get_or xs q 0) empty in absurd (omega (arith, l, no)),
          λ h.
              let place : Some d ≡ Some h.0 = h.2 in
              let one : d ≡ h.0 = cc place in
              let c-at : IsAt ops d h.1 = ap (slice_get ops) one ∙ h.3 in
              absurd (go none h.1 c-at h.1.process refl h.4),
        )
  ]
    where
      go : length (row_at clocks d) ≤ 0 → (c : Operation) → IsAt ops d c → (o : Option ℕ) → c.process ≡ o
          → (a ≡ c) ⊎ Knows ops a c → ⊥
      go none c at-c None e (inl u) =
          session-process ops table order y.learning k q a at session
          (ap (λ (x : Operation). x.process) u ∙ e)
      go none c at-c None e (inr u) =
          initial-knows ops table order y.learning a c e (slice_get-In ops d c at-c) u
      go none c at-c (Some x) e u =
          let held = held-asked d x c (asks d refl) at-c e in omega (arith, held, none)

  -- the row that is made for it says what it knows
  pub row-made : (s : ℕ) (b : Operation) (row : List ℕ) → IsAt ops p b → HasSession table p s
      → IsMade table clocks p s row → IsRow ops table b row
  row-made s b row at session made = record {
    entries = made.entries;
    known = λ k q a at-a session-a. elim (cases_same q) [
      | inl e ↦ (
        λ l. elim (max-cases k _ _ (subst (λ n. k < n) (ap (λ n. get_or row n 0) e ∙ made.own) l)) [
          | inl m ↦ inr (from k q a at-a session-a (subst (λ n. k < entry_of clocks before source n)
              (sym e) m))
          | inr m ↦ own-known ops table order y.learning p s b at session before source is_before is_source
              k q a at-a session-a e m
        ],
        λ h. elim h [
          | inl i ↦
              let own = known-own ops table order y.learning p s b at session before source is_before
              is_source
              k q a at-a session-a i in
              omega (
                arith,
                own.1,
                made.own,
                ap (λ n. get_or row n 0) e,
                le-max_right (entry_of clocks before source s) (suc p),
              )
          | inr i ↦
              let less = to k q a at-a session-a i in
              omega (
                arith,
                less,
                made.own,
                ap (λ n. get_or row n 0) e,
                ap (entry_of clocks before source) e,
                le-max_left (entry_of clocks before source s) (suc p),
              )
        ],
      )
      | inr n ↦
          let is = made.other q (y.learning.sessions.below k q session-a) n in (
            λ l. inr (from k q a at-a session-a (omega (arith, l, is))),
            λ h. elim h [
              | inl i ↦ absurd
                  (n (known-own ops table order y.learning p s b at session before source is_before is_source
                  k q a at-a session-a i).0)
              | inr i ↦ let less = to k q a at-a session-a i in omega (arith, less, is)
            ],
          )
    ];
  }
    where
      cases_same : (q : ℕ) → (q ≡ s) ⊎ (q ≡ s → ⊥)
      cases_same q = elim (cases_order q s) [
        | inl e ↦ inl e
        | inr o ↦ elim o [ inl l ↦ inr (λ e. omega (arith, e, l)) | inr l ↦ inr (λ e. omega (arith, e, l)) ]
      ]

      before : Option ℕ
      before = found_at table.previous.items p

      source : Option ℕ
      source = found_at table.sources.items p

      below : p < length ops
      below = at-below ops p b at

      at-before : slice_get table.previous.items p ≡ Some before
      at-before =
          let r = slice_get_inside table.previous.items p (omega
          (arith, below, y.learning.sessions.previous)) in
          r.1 ∙ ap Some (sym (get_or_from_slice_get table.previous.items p r.0 None r.1))

      at-source : slice_get table.sources.items p ≡ Some source
      at-source =
          let r = slice_get_inside table.sources.items p (omega
          (arith, below, y.learning.sessions.sources)) in
          r.1 ∙ ap Some (sym (get_or_from_slice_get table.sources.items p r.0 None r.1))

      is_before : IsPrevious ops p b before
      is_before = y.learning.sessions.each_previous p b before at at-before

      is_source : IsSourceAt ops b source
      is_source = y.learning.sessions.each_source p b source at at-source

      says-before : SaysKnown ops table before (row_of clocks before)
      says-before = says-known before (λ d e. inl (at-before ∙ ap Some e))

      says-source : SaysKnown ops table source (row_of clocks source)
      says-source = says-known source (λ d e. inr (at-source ∙ ap Some e))

      from : (k q : ℕ) (a : Operation) → IsAt ops k a → HasSession table k q
          → k < entry_of clocks before source q → Knows ops a b
      from k q a at-a session-a l = elim (max-cases k _ _ l) [
        | inl m ↦ before-known ops table order y.learning p s b at session before source is_before is_source
            k q a at-a session-a ((says-before k q a at-a session-a).0 m)
        | inr m ↦ source-known ops table order y.learning p s b at session before source is_before is_source
            k q a at-a session-a ((says-source k q a at-a session-a).0 m)
      ]

      to : (k q : ℕ) (a : Operation) → IsAt ops k a → HasSession table k q → Knows ops a b
          → k < entry_of clocks before source q
      to k q a at-a session-a h =
          elim (known-further ops table order y.learning p s b at session before source is_before is_source
          k q a at-a session-a h) [
            | inl m ↦
                let l = (says-before k q a at-a session-a).1 m in
                let b = le-max_left (get_or (row_of clocks before) q 0) (get_or (row_of clocks source) q 0) in
                omega (arith, l, b)
            | inr m ↦
                let l = (says-source k q a at-a session-a).1 m in
                let b = le-max_right (get_or (row_of clocks before) q 0)
                (get_or (row_of clocks source) q 0) in
                omega (arith, l, b)
          ]

  pub taken : (s : ℕ) (row : List ℕ) (new : Clocks) → HasSession table p s → IsMade table clocks p s row
      → IsHolding clocks new p row → AreClocks ops table order t (Some p) new
  taken s row new session made h = record {
    learning = y.learning;
    sized = record {
      in_range = y.sized.in_range;
      rows = h.rows ∙ y.sized.rows;
      until = ap length h.until ∙ y.sized.until;
      held = h.held;
    };
    until = record {
      places = ap length h.until ∙ y.until.places;
      each = λ d u g. y.until.each d u (sym (ap (λ xs. slice_get xs d) h.until) ∙ g);
    };
    exact = λ d b at held. elim (cases_place d) [
      | inl e ↦
          let at-p = subst (λ n. IsAt ops n b) e at in
          subst (IsRow ops table b) (sym (ap (row_at new) e ∙ h.at)) (row-made s b row at-p session made)
      | inr n ↦
          let is = h.other d n in
          subst (IsRow ops table b) (sym is)
          (y.exact d b at (subst (λ xs. 0 < length xs) is held))
    ];
    only = λ d held. elim (cases_place d) [
      | inl e ↦ inl (ap Some (sym e))
      | inr n ↦ elim (y.only d (subst (λ xs. 0 < length xs) (h.other d n) held)) [
        | inl bad ↦ absurd (cc bad)
        | inr due ↦ inr due
      ]
    ];
    all = λ d q in-session due. elim (cases_place d) [
      | inl e ↦ subst (λ n. IsHeld new n) (sym e) own
      | inr n ↦ subst (λ xs. 0 < length xs) (sym (h.other d n)) (elim due [
        | inl e ↦ absurd (let same : Some p ≡ Some d = e in let is : p ≡ d = cc same in n (sym is))
        | inr more ↦ y.all d q in-session (inr more)
      ])
    ];
  }
    where
      cases_place : (d : ℕ) → (d ≡ p) ⊎ (d ≡ p → ⊥)
      cases_place d = elim (cases_order d p) [
        | inl e ↦ inl e
        | inr o ↦ elim o [ inl l ↦ inr (λ e. omega (arith, e, l)) | inr l ↦ inr (λ e. omega (arith, e, l)) ]
      ]

      own : IsHeld new p
      own =
          let some = y.learning.sessions.below p s session in
          omega (arith, ap length h.at, made.entries, some)

  -- an initial write has no row
  pub taken-initial : slice_get table.numbers.items p ≡ Some None → AreClocks ops table order t (Some p)
      clocks
  taken-initial none = record {
    learning = y.learning;
    sized = y.sized;
    until = y.until;
    exact = y.exact;
    only = λ d held. elim (y.only d held) [ inl bad ↦ absurd (cc bad) | inr due ↦ inr due ];
    all = λ d q in-session due. elim due [
      | inl e ↦
          let same : Some p ≡ Some d = e in
          let is : p ≡ d = cc same in
          let bad : Some None ≡ Some (Some q) = sym none ∙ (ap (slice_get table.numbers.items) is ∙
          in-session) in
          absurd (cc bad)
      | inr more ↦ y.all d q in-session (inr more)
    ];
  }
