-- A walk: what is known of the operation that was taken, and what the graph settles of it.
use Rattle.std.proofs.Common.{◌≡◌, ℕ, ◌+◌, ◌*◌, ◌^◌, ◌<◌, ◌≤◌, List, length, get_or, slice_get, Option}
use Rattle.std.proofs.Common.{Some, None}
use Rattle.std.proofs.Common.{inl, inr, refl, sym, ap, ◌∙◌, subst, arith, ◌⊎◌, [], true, false, add-one}
use Rattle.std.specs.Option.{MatchOption, is_some}
use Rattle.std.proofs.Math.Nat.{add-mul, mul-le-mul_right, mul_comm, suc-mul}
use Rattle.std.proofs.lemmas.Bool.{cases_lt, cases_order}
use Rattle.std.proofs.lemmas.Option.{get_or_from_slice_get, slice_get_read, slice_get_within}
use Rattle.history_model.specs.Operations.{IsWrite}
use Rattle.history_model.specs.declared.operation.Operation.{Operation}
use Rattle.reg_levels.specs.OrderGraph.Graph.{HasEdge}
use Rattle.reg_levels.specs.declared.order_graph.edge.Edge.{Edge}
use Rattle.level_laws.specs.Causal.{IsSource, Knows}
use Rattle.causal_order.specs.SessionClocks.Clocks.{IsHeld, IsRow, row_at}
use Rattle.causal_order.specs.SessionClocks.Sessions.{HasSession, HasSource, IsAt}
use Rattle.causal_order.specs.SessionClocks.WriteIndex.{IsWriteBy}
use Rattle.causal_order.specs.declared.session_clocks.table.SessionTable.{SessionTable}
use Rattle.causal_order.specs.CausalGraph.{IsTableOf, Keeps}
use Rattle.causal_order.specs.Covering.{AreReached, AreSettled, IsAnyKnown, IsSettled, IsSourcedRead, IsStale}
use Rattle.causal_order.specs.Walks.{IsWalk}
use Rattle.causal_order.specs.declared.newer.SourcedRead.{SourcedRead}
use Rattle.causal_order.specs.declared.walk.LearningWalk.{LearningWalk}
use Rattle.causal_order.proofs.Behind.{AreBoth, source-both}
use Rattle.causal_order.proofs.Covers.{write-read}
use Rattle.causal_order.proofs.SessionClockLemmas.Ordered.{at-one, calls_ascend}
use Rattle.causal_order.proofs.Places.{at-In, initial-write}

none-from : (o : Option ℕ) → is_some o ≡ false → o ≡ None
none-from None e = refl
none-from (Some x) e = absurd (cc e)

some-from : (o : Option ℕ) → is_some o ≡ true → (x : ℕ) × (o ≡ Some x)
some-from None e = absurd (cc e)
some-from (Some x) e = (x, refl)

module _ (ops : List Operation) (table : SessionTable) (order : List ℕ) (turn place : ℕ) (walk : LearningWalk)
    (w : IsWalk ops table order turn (Some place) walk) (at : slice_get order turn ≡ Some place) where
  pub walk-table : IsTableOf ops table
  walk-table = record {
    whole = w.clocks.learning.whole;
    called = w.clocks.learning.called;
    few = w.clocks.learning.few;
    is_table = w.clocks.learning.sessions;
  }

  pub place-below : place < length ops
  place-below = let l = w.clocks.learning.turns.within turn place at in omega
      (arith, l, walk-table.is_table.numbers)

  pub source-has : (found : Option ℕ) (source : ℕ) → found ≡ get_or table.sources.items place found
      → found ≡ Some source → HasSource table place source
  source-has found source e is =
      slice_get_read table.sources.items _ place found refl (let l = place-below in omega
      (arith, l, walk-table.is_table.sources)) e
      ∙ ap Some is

  -- ---- a read and the write of its value

  module _ (source : ℕ) (has : HasSource table place source) where
    pub both : AreBoth ops source place IsSource
    both = source-both ops table walk-table.called walk-table.is_table place source has

    read_called : (y : ℕ) × (both.later.process ≡ Some y)
    read_called = go both.later.process refl
      where
        go : (process : Option ℕ) → both.later.process ≡ process → (y : ℕ) × (both.later.process ≡ Some y)
        go None e =
            let v = initial-write ops walk-table.whole both.later
            (at-In ops place both.later both.at_later) e in
            absurd (write-read both.later both.later v both.holds.read.read refl)
        go (Some y) e = (y, e)

    pub read-held : IsHeld walk.clocks place
    read-held =
        let s = walk-table.is_table.some place read_called.0 both.later both.at_later read_called.1 in
        w.clocks.all place s.0 s.1 (inl refl)

    pub later-row : IsRow ops table both.later (row_at walk.clocks place)
    later-row = w.clocks.exact place both.later both.at_later read-held

    pub source-held : (x : ℕ) → both.earlier.process ≡ Some x → IsHeld walk.clocks source
    source-held x e =
        let s = walk-table.is_table.some source x both.earlier both.at_earlier e in
        let before = w.clocks.learning.turns.after turn place source at (inr has) in
        w.clocks.all source s.0 s.1 (inr (
          (before.0, before.1, before.2),
          (turn, place, omega arith, at, inr has),
        ))

    pub earlier-row : (x : ℕ) → both.earlier.process ≡ Some x
        → IsRow ops table both.earlier (row_at walk.clocks source)
    earlier-row x e = w.clocks.exact source both.earlier both.at_earlier (source-held x e)

    pub source-below : source < length ops
    source-below = slice_get_within ops source both.earlier both.at_earlier

    pub register-is : (d : Operation) → (get_or ops place d).register ≡ both.later.register
    register-is d = ap (λ (y : Operation). y.register) (get_or_from_slice_get ops place both.later d
        both.at_later)

    pub nobody-is : (d : Operation) → is_some (get_or ops source d).process ≡ false
        → both.earlier.process ≡ None
    nobody-is d h = none-from (both.earlier.process)
        (subst (λ (y : Operation). is_some y.process ≡ false)
        (get_or_from_slice_get ops source both.earlier d both.at_earlier) h)

    pub somebody-is : (d : Operation) → is_some (get_or ops source d).process ≡ true
        → (x : ℕ) × (both.earlier.process ≡ Some x)
    somebody-is d h = some-from (both.earlier.process)
        (subst (λ (y : Operation). is_some y.process ≡ true)
        (get_or_from_slice_get ops source both.earlier d both.at_earlier) h)

    pub sourced-by : (of : SourcedRead) (earlier later : List ℕ) (x : ℕ) → of.source ≡ source
        → of.read ≡ place
        → of.register ≡ both.later.register → both.earlier.process ≡ Some x
        → earlier ≡ row_at walk.clocks source
        → later ≡ row_at walk.clocks place → IsSourcedRead ops table of earlier later
    sourced-by of earlier later x s p r called e f = record {
      is_table = walk-table;
      write = both.earlier;
      read = both.later;
      at_write = subst (λ n. IsAt ops n both.earlier) (sym s) both.at_earlier;
      at_read = subst (λ n. IsAt ops n both.later) (sym p) both.at_later;
      source = both.holds;
      register = r;
      earlier_row = subst (IsRow ops table both.earlier) (sym e) (earlier-row x called);
      later_row = subst (IsRow ops table both.later) (sym f) later-row;
    }

    -- a write of the same register that the read knows of shows that the read is stale
    pub stale : (register l : ℕ) → register ≡ both.later.register → both.earlier.process ≡ None
        → IsAnyKnown ops table register (row_at walk.clocks place) (length (row_at walk.clocks place))
        (Some l)
        → IsStale ops table l place
    stale register l r none (s, within, below, (v, at_v, write, reg, session)) =
        let known = (later-row.known l s v at_v session).0 below in
        let called = go v.process refl in
        record {
          write = v;
          read = both.later;
          initial = both.earlier;
          place = source;
          process = called.0;
          at_write = at_v;
          at_read = both.at_later;
          at_initial = both.at_earlier;
          is_source = has;
          called = called.1;
          nobody = none;
          hidden = record {
            within = at-In ops place both.later both.at_later;
            differ = λ e. let p : None ≡ Some called.0 = sym none
                ∙ (ap (λ (x : Operation). x.process) (sym e) ∙ called.1) in absurd (cc p);
            write = write;
            register = reg ∙ r;
            source = both.holds;
            known = elim known [
              | inl e ↦ absurd (write-read v both.later write both.holds.read.read e)
              | inr h ↦ h
            ];
          };
        }
      where
        go : (process : Option ℕ) → v.process ≡ process → (y : ℕ) × (v.process ≡ Some y)
        go None e = let n : Some None ≡ Some (Some s) = sym (walk-table.is_table.none l v at_v e)
            ∙ session in absurd (cc n)
        go (Some y) e = (y, e)

    -- what the read knows of, by its row
    known_by : (q x : ℕ) (v : Operation) → IsAt ops q v → v.process ≡ Some x → IsWrite v
        → v.register ≡ both.later.register → Knows ops v both.later
        → (s : ℕ) × (s < table.count) × (q < get_or (row_at walk.clocks place) s 0)
        × IsWriteBy ops table both.later.register s q
    known_by q x v at_v e write reg knows =
        let s = walk-table.is_table.some q x v at_v e in (
          s.0,
          walk-table.is_table.below q s.0 s.1,
          (later-row.known q s.0 v at_v s.1).1 (inr knows),
          (v, at_v, write, reg, s.1),
        )

    one_source : (s : ℕ) → HasSource table place s → s ≡ source
    one_source s h = let e : Some (Some s) ≡ Some (Some source) = sym h ∙ has in cc e

    pub settled-none : (register : ℕ) (edges : List Edge) → register ≡ both.later.register
        → IsAnyKnown ops table register (row_at walk.clocks place) (length (row_at walk.clocks place)) None
        → IsSettled ops table edges place
    settled-none register edges r none s q x read write v h at_r at_w at_v e is reg knows =
        let same = at-one ops place read both.later at_r both.at_later in
        let k = known_by q x v at_v e is (reg ∙ ap (λ (y : Operation). y.register) same)
        (subst (Knows ops v) same knows) in
        absurd (none k.0 q (omega (arith, k.1, later-row.entries)) k.2
        (subst (λ n. IsWriteBy ops table n k.0 q) (sym r) k.3))

    pub stale-or-settled : (register : ℕ) (row : List ℕ) (edges : List Edge) (found : Option ℕ)
        → register ≡ both.later.register → row ≡ row_at walk.clocks place → both.earlier.process ≡ None
        → IsAnyKnown ops table register row (length row) found
        → MatchOption found (IsSettled ops table edges place) (λ l. IsStale ops table l place)
    stale-or-settled register row edges None r e none h =
        settled-none register edges r (subst (λ xs. IsAnyKnown ops table register xs (length xs) None) e h)
    stale-or-settled register row edges (Some l) r e none h =
        stale register l r none (subst (λ xs. IsAnyKnown ops table register xs (length xs) (Some l)) e h)

    pub settled-some : (of : SourcedRead) (before after : List ℕ) (y : ℕ) (edges : List Edge)
        → of.source ≡ source
        → of.register ≡ both.later.register → both.earlier.process ≡ Some y
        → before ≡ row_at walk.clocks source
        → after ≡ row_at walk.clocks place → AreReached ops table of before after (length after) edges
        → IsSettled ops table edges place
    settled-some of before after y edges f r called e_before e_after reached s q x read write v h at_r at_w
        at_v e is
        reg knows =
        let same = at-one ops place read both.later at_r both.at_later in
        let one = one_source s h in
        let source_is : both.earlier ≡ write =
        at-one ops s both.earlier write (subst (λ n. IsAt ops n both.earlier)
        (sym one) both.at_earlier) at_w in
        let k = known_by q x v at_v e is (reg ∙ ap (λ (z : Operation). z.register) same)
        (subst (Knows ops v) same knows) in
        let earlier = subst (IsRow ops table both.earlier) (sym e_before) (earlier-row y called) in (
          λ none. let p : None ≡ Some y = sym none ∙ (ap (λ (z : Operation). z.process) (sym source_is)
              ∙ called) in absurd (cc p),
          elim (cases_lt q (get_or before k.0 0)) [
            | inl low ↦ elim ((earlier.known q k.0 v at_v k.3.4).0 low) [
              | inl i ↦ inl (i ∙ source_is)
              | inr i ↦ inr (inl (subst (Knows ops v) source_is i))
            ]
            | inr high ↦
                let last = reached k.0 q (omega (arith, k.1, later-row.entries, ap length e_after)) high
                (subst (λ xs. q < get_or xs k.0 0) (sym e_after) k.2)
                (subst (λ n. IsWriteBy ops table n k.0 q) (sym r) k.3) in
                inr (inr (
                  last.0,
                  last.2.0,
                  last.2.1,
                  subst (HasEdge edges last.0) (f ∙ sym one) last.3,
                  from last.0 k.0 last.2.0 last.2.1 last.1 last.2.4 k.3.4,
                ))
          ],
        )
      where
        from : (l s : ℕ) (u : Operation) → IsAt ops l u → q ≤ l → HasSession table l s → HasSession table q s
            → (v ≡ u) ⊎ Knows ops v u
        from l s u at_u le session own = elim (cases_lt q l) [
          | inl less ↦
              let process : v.process ≡ u.process = (walk-table.is_table.same q l s v u at_v at_u own).0
              session in
              let there : u.process ≡ Some x = sym process ∙ e in
              inr (
                [],
                (
                  at-In ops q v at_v,
                  at-In ops l u at_u,
                  inl (inl (x, e, there, calls_ascend ops walk-table.called q l x v u less at_v at_u there)),
                ),
              )
          | inr more ↦
              let k : q ≡ l = omega arith in
              inl (at-one ops l v u (subst (λ n. IsAt ops n v) k at_v) at_u)
        ]

-- edges that are added settle no less
pub settled-keeps : (ops : List Operation) (table : SessionTable) (old new : List Edge) (place : ℕ)
    → Keeps old new
    → IsSettled ops table old place → IsSettled ops table new place
settled-keeps ops table old new place keeps h s q x r w v a b c d e f g k =
    let old_is = h s q x r w v a b c d e f g k in (
      old_is.0,
      elim old_is.1 [
        | inl i ↦ inl i
        | inr o ↦ elim o [
          | inl i ↦ inr (inl i)
          | inr (l, u, at, edge, from) ↦ inr (inr (l, u, at, keeps l s edge, from))
        ]
      ],
    )

pub settled-more : (ops : List Operation) (table : SessionTable) (order : List ℕ) (turn place : ℕ)
    (old new : List Edge) → slice_get order turn ≡ Some place → Keeps old new → IsSettled ops table new place
    → AreSettled ops table old order turn → AreSettled ops table new order (turn + 1)
settled-more ops table order turn place old new at keeps is h i p l there = elim (cases_order i turn) [
  | inl e ↦
      let same : Some place ≡ Some p = sym at ∙ subst (λ n. slice_get order n ≡ Some p) e there in
      let q : place ≡ p = cc same in subst (IsSettled ops table new) q is
  | inr o ↦ elim o [
    | inl less ↦ settled-keeps ops table old new p keeps (h i p less there)
    | inr more ↦ absurd (omega arith)
  ]
]

-- ---- bounds

-- each turn adds at most an edge for each session
pub longer-more : (turn count base old new : ℕ) → old ≤ base + turn * count → new ≤ old + count
    → new ≤ base + (turn + 1) * count
longer-more turn count base old new h l =
    let e : (turn + 1) * count ≡ turn * count + count = rw add-one (suc-mul turn count) in
    omega (arith, h, l, e)

-- what is beyond the bounds has many operations and sessions
pub beyond-many : (n m count edges turns : ℕ) → turns ≤ n → m ≡ n → edges ≤ 2 * n + turns * count
    → (2 ^ 25 < edges) ⊎ (2 ^ 26 < m * count) → 2 ^ 25 < (count + 2) * n
beyond-many n m count edges turns l e h big =
    let product = mul-le-mul_right count l in
    let sum : (count + 2) * n ≡ count * n + 2 * n = add-mul count 2 n in
    let other = mul_comm count n in
    let same : m * count ≡ n * count = ap (λ k. k * count) e in
    elim big [
      | inl b ↦ omega (arith, product, sum, other, h, b)
      | inr b ↦ omega (arith, sum, other, same, b)
    ]
