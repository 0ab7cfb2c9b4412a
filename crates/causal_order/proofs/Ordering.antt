-- The writes of an order in which all edges go forward stand in a causal order.
use Rattle.std.proofs.Common.{◌≡◌, ◌⊎◌, ℕ, ◌<◌, Bool, true, List, ◌++◌, length}
use Rattle.std.proofs.Common.{Option, Some, None, inl, inr, refl, sym, ap, ◌∙◌, subst, arith}
use Rattle.std.specs.List.{filter}
use Rattle.std.proofs.lemmas.Option.{slice_get_within}
use Rattle.history_model.specs.Lists.{In, Before}
use Rattle.history_model.specs.Operations.{IsCompletedRead, IsWrite, initial_write}
use Rattle.history_model.specs.declared.operation.Operation.{Operation}
use Rattle.history_model.proofs.Indexes.{append-Before}
use Rattle.history_model.proofs.Lists.{Before-across, Before-filter, Before-right, In-filter, In-left}
use Rattle.history_model.proofs.Lists.{In-right}
use Rattle.history_model.proofs.Lists.{append-In, filter-Before, filter-In, slice_get-In}
use Rattle.reg_levels.specs.OrderGraph.Graph.{HasEdge, IsForwardOrder}
use Rattle.reg_levels.specs.declared.order_graph.edge.Edge.{Edge}
use Rattle.level_laws.specs.Causal.{IsCausalOrder, IsKeptWrite, IsSource, Knows}
use Rattle.causal_order.specs.SessionClocks.Clocks.{IsLearningOrder}
use Rattle.causal_order.specs.SessionClocks.Sessions.{HasSource, IsAt}
use Rattle.causal_order.specs.declared.session_clocks.table.SessionTable.{SessionTable}
use Rattle.causal_order.specs.CausalGraph.{AreLearned, IsTableOf}
use Rattle.causal_order.specs.CausalOrders.{AreReads, is_initial_at, is_listed_at}
use Rattle.causal_order.specs.Covering.{IsSettled}
use Rattle.causal_order.specs.Decisions.{AreAt}
use Rattle.causal_order.proofs.Behind.{source-both}
use Rattle.causal_order.proofs.Forward.{in_way, knows_forward}
use Rattle.causal_order.proofs.Learning.{forward-learning}
use Rattle.causal_order.proofs.SessionClockLemmas.Ordered.{at-once, at-one}
use Rattle.causal_order.proofs.Places.{In-at, at-Before, at-In, initial-is}
use Rattle.causal_order.proofs.Places.{source-one}
use Rattle.causal_order.proofs.SessionClockLemmas.Learned.{initial-knows}
use Rattle.causal_order.proofs.Learning.{learning-of}
use Rattle.causal_order.proofs.Placing.{before_ops, before_places, in_ops, ops_before, ops_in}
use Rattle.causal_order.proofs.Testing.{initial_place, listed_place, place_initial, place_listed}
use Rattle.causal_order.proofs.Keeping.{initial_kept, knows_kept, source_of}

module _ (ops : List Operation) (table : SessionTable) (t : IsTableOf ops table) (edges : List Edge)
    (order : List ℕ) (read : List Bool) (places : List ℕ) (listed : List Operation)
    (learned : AreLearned table (length ops) edges) (f : IsForwardOrder (length ops) edges order)
    (settled : (p : ℕ) → p < length ops → IsSettled ops table edges p)
    (reads : AreReads table (length ops) read)
    (e : places ≡ filter (is_initial_at ops) order ++ filter (is_listed_at ops read) order)
    (are : AreAt ops places listed) where
  learning : IsLearningOrder table order
  learning = forward-learning ops table t edges order learned f

  in_order : (p : ℕ) (v : Operation) → IsAt ops p v → In p order
  in_order p v at = let i = f.all p (slice_get_within ops p v at) in slice_get-In order i.0 p i.1

  -- of two called operations the one that stands first in the order
  known_first : (p q x : ℕ) (v w : Operation) → IsAt ops p v → IsAt ops q w → v.process ≡ Some x
      → Knows ops v w
      → Before p q order
  known_first p q x v w at there called knows =
      let i = f.all p (slice_get_within ops p v at) in
      let j = f.all q (slice_get_within ops q w there) in
      at-Before order i.0 j.0 p q
      (knows_forward ops table order t.whole t.called t.is_table learning f.all p q x v w at there called
      knows
      i.0 j.0 i.1 j.1) i.1 j.1

  kept_test : (p : ℕ) (v : Operation) → IsAt ops p v → IsKeptWrite ops v → (x : ℕ) → v.process ≡ Some x
      → is_listed_at ops read p ≡ true
  kept_test p v at kept x called =
      let l = slice_get_within ops p v at in
      place_listed ops read p v at (omega (arith, l, reads.size, t.is_table.sources)) (record {
        process = x;
        called = called;
        write = kept.write;
        kept = elim kept.kept [
          | inl c ↦ inl c
          | inr (r, i, source) ↦
              let q = In-at ops r i in
              let s = source_of ops table t r q.0 q.1 (record {
                read = source.read.read;
                completed =
                    source.read.completed;
              }) in
              let one = source-one ops t.whole v s.1 r (at-In ops p v at)
              (at-In ops s.0 s.1 s.3) source s.4 in
              let same : s.0 ≡ p = at-once ops t.called s.0 p v (subst (IsAt ops s.0) (sym one) s.3) at in
              inr (reads.all q.0 p (slice_get_within ops q.0 r q.1) (subst (HasSource table q.0) same s.2))
        ];
      })

  kept_in : (p : ℕ) (v : Operation) → IsAt ops p v → IsKeptWrite ops v → In p places
  kept_in p v at kept = subst (In p) (sym e) (go v.process refl)
    where
      go : (process : Option ℕ) → v.process ≡ process
          → In p (filter (is_initial_at ops) order ++ filter (is_listed_at ops read) order)
      go None none = In-left p (filter (is_initial_at ops) order) (filter (is_listed_at ops read) order)
          (In-filter (is_initial_at ops) p order (in_order p v at) (place_initial ops p v at none))
      go (Some x) called = In-right p (filter (is_initial_at ops) order) (filter
          (is_listed_at ops read) order)
          (In-filter (is_listed_at ops read) p order (in_order p v at) (kept_test p v at kept x called))

  -- initial writes come first
  initial_first : (p q x : ℕ) (v w : Operation) → IsAt ops p v → IsAt ops q w → v.process ≡ None
      → w.process ≡ Some x → IsKeptWrite ops w → Before v w listed
  initial_first p q x v w at there none called kept =
      before_ops ops places listed p q v w are (subst (Before p q) (sym e)
      (Before-across p q (filter (is_initial_at ops) order) (filter (is_listed_at ops read) order)
      (In-filter (is_initial_at ops) p order (in_order p v at) (place_initial ops p v at none))
      (In-filter (is_listed_at ops read) q order (in_order q w there) (kept_test q w there kept x called))))
      at there

  -- called ones come in the order
  called_first : (p q x y : ℕ) (v w : Operation) → IsAt ops p v → IsAt ops q w → v.process ≡ Some x
      → w.process ≡ Some y → IsKeptWrite ops v → IsKeptWrite ops w → Before p q order → Before v w listed
  called_first p q x y v w at there called_v called_w kept_v kept_w before =
      before_ops ops places listed p q v w are (subst (Before p q) (sym e)
      (Before-right p q (filter (is_initial_at ops) order) (filter (is_listed_at ops read) order)
      (Before-filter (is_listed_at ops read) p q order before (kept_test p v at kept_v x called_v)
      (kept_test q w there kept_w y called_w)))) at there

  -- each place is of one kind
  place_kind : (p : ℕ) → In p places → (In p (filter (is_initial_at ops) order))
      ⊎ (In p (filter (is_listed_at ops read) order))
  place_kind p i = append-In p (filter (is_initial_at ops) order) (filter (is_listed_at ops read) order)
      (subst (In p) e i)

  order_once : (p : ℕ) → Before p p order → ⊥
  order_once p b = let r = before_places order p p b in let s = f.once r.0 r.1 p r.3 r.4 in omega
      (arith, r.2, s)

  place_once : (p : ℕ) (v : Operation) → IsAt ops p v → Before p p places → ⊥
  place_once p v at b =
      elim (append-Before p p (filter (is_initial_at ops) order) (filter (is_listed_at ops read) order)
      (subst (Before p p) e b)) [
        | inl k ↦ order_once p (filter-Before (is_initial_at ops) p p order k)
        | inr o ↦ elim o [
          | inl k ↦
              let none = initial_place ops p v at (filter-In (is_initial_at ops) p order k.0).1 in
              let called = listed_place ops read p v at (filter-In (is_listed_at ops read) p order k.1).1 in
              let two : None ≡ Some called.process = sym none ∙ called.called in
              absurd (cc two)
          | inr k ↦ order_once p (filter-Before (is_listed_at ops read) p p order k)
        ]
      ]

  listed_once : (v : Operation) → Before v v listed → ⊥
  listed_once v b =
      let r = ops_before ops places listed v v are b in
      let same = at-once ops t.called r.0 r.1 v r.3 r.4 in
      place_once r.0 v r.3 (subst (λ q. Before r.0 q places) (sym same) r.2)

  listed_only : (v : Operation) → In v listed → IsKeptWrite ops v
  listed_only v i =
      let r = ops_in ops places listed v are i in
      elim (place_kind r.0 r.1) [
        | inl k ↦ initial_kept ops table t v (at-In ops r.0 v r.2)
            (initial_place ops r.0 v r.2 (filter-In (is_initial_at ops) r.0 order k).1)
        | inr k ↦
            let h = listed_place ops read r.0 v r.2 (filter-In (is_listed_at ops read) r.0 order k).1 in
            record {
              within = at-In ops r.0 v r.2;
              write = h.write;
              kept = elim h.kept [
                | inl c ↦ inl c
                | inr c ↦
                    let q = reads.only r.0 c in
                    let b = source-both ops table t.called t.is_table q.0 r.0 q.1 in
                    let one = at-one ops r.0 b.earlier v b.at_earlier r.2 in
                    inr (
                      b.later,
                      at-In ops q.0 b.later b.at_later,
                      subst
                          (λ z. IsSource z b.later) one b.holds,
                    )
              ];
            }
      ]

  listed_all : (v : Operation) → IsKeptWrite ops v → In v listed
  listed_all v kept =
      let p = In-at ops v kept.within in
      in_ops ops places listed p.0 v are (kept_in p.0 v p.1 kept) p.1

  -- what is known of comes first
  kept_known : (v w : Operation) → IsKeptWrite ops v → IsKeptWrite ops w → Knows ops v w → Before v w listed
  kept_known v w kept_v kept_w knows =
      let p = In-at ops v kept_v.within in
      let q = In-at ops w kept_w.within in
      go p.0 q.0 p.1 q.1 v.process w.process refl refl
    where
      go : (p q : ℕ) → IsAt ops p v → IsAt ops q w → (x y : Option ℕ) → v.process ≡ x → w.process ≡ y
          → Before v w listed
      go p q at there x None ex ey = absurd (initial-knows ops table order
          (learning-of ops table t order learning) v w ey kept_w.within knows)
      go p q at there None (Some y) ex ey = initial_first p q y v w at there ex ey kept_w
      go p q at there (Some x) (Some y) ex ey =
          called_first p q x y v w at there ex ey kept_v kept_w (known_first p q x v w at there ex knows)

  -- ---- completed reads

  module _ (r : Operation) (p : ℕ) (at : IsAt ops p r) (completed : IsCompletedRead r) where
    found : (s : ℕ) × (w : Operation) × HasSource table p s × IsAt ops s w × IsSource w r
    found = source_of ops table t r p at completed

    source_kept : IsKeptWrite ops found.1
    source_kept = record {
      within = at-In ops found.0 found.1 found.3;
      write = found.4.write;
      kept = inr (r, at-In ops p r at, found.4);
    }

    -- a write that is joined to the source comes before it
    joined_first : (v u : Operation) (q l x : ℕ) → IsAt ops q v → v.process ≡ Some x → IsAt ops l u
        → HasEdge edges l found.0 → (v ≡ u) ⊎ Knows ops v u → Before q found.0 order
    joined_first v u q l x at_v called at_u edge (inl same) =
        let k : q ≡ l = at-once ops t.called q l u (subst (IsAt ops q) same at_v) at_u in
        let i = f.all q (slice_get_within ops q v at_v) in
        let j = f.all found.0 (slice_get_within ops found.0 found.1 found.3) in
        at-Before order i.0 j.0 q found.0
        (f.forward i.0 j.0 q found.0 i.1 j.1 (subst (λ n. HasEdge edges n found.0) (sym k) edge)) i.1 j.1
    joined_first v u q l x at_v called at_u edge (inr knows) =
        let i = f.all q (slice_get_within ops q v at_v) in
        let m = f.all l (slice_get_within ops l u at_u) in
        let j = f.all found.0 (slice_get_within ops found.0 found.1 found.3) in
        let first = knows_forward ops table order t.whole t.called t.is_table learning f.all q l x v u at_v
        at_u called
        knows i.0 m.0 i.1 m.1 in
        let second = f.forward m.0 j.0 l found.0 m.1 j.1 edge in
        at-Before order i.0 j.0 q found.0 (omega (arith, first, second)) i.1 j.1

    last_known : (v : Operation) → IsWrite v → v.register ≡ r.register → Knows ops v r
        → (v ≡ found.1) ⊎ Before v found.1 listed
    last_known v write register knows =
        let within = in_way ops v knows.0 r knows.1 in
        let q = In-at ops v within in
        go q.0 q.1 v.process found.1.process refl refl
      where
        kept : IsKeptWrite ops v
        kept = knows_kept ops table t v r write knows

        go : (q : ℕ) → IsAt ops q v → (x y : Option ℕ) → v.process ≡ x → found.1.process ≡ y
            → (v ≡ found.1) ⊎ Before v found.1 listed
        go q at_v None None ex ey =
            let one = initial-is ops t.whole v (at-In ops q v at_v) ex in
            let other = initial-is ops t.whole found.1 (at-In ops found.0 found.1 found.3) ey in
            inl (one ∙ (ap initial_write (register ∙ sym found.4.register) ∙ sym other))
        go q at_v None (Some y) ex ey = inr (initial_first q found.0 y v found.1 at_v found.3 ex ey
            source_kept)
        go q at_v (Some x) y ex ey =
            let h = settled p (slice_get_within ops p r at) found.0 q x r found.1 v found.2 at found.3 at_v
            ex write
            register knows in
            let called = some_called found.1 h.0 in
            elim h.1 [
              | inl same ↦ inl same
              | inr o ↦ elim o [
                | inl k ↦ inr (kept_known v found.1 kept source_kept k)
                | inr (l, u, at_u, edge, from) ↦
                    inr (called_first q found.0 x called.0 v found.1 at_v found.3 ex called.1 kept source_kept
                    (joined_first v u q l x at_v ex at_u edge from))
              ]
            ]
          where
            some_called : (w : Operation) → (w.process ≡ None → ⊥) → (x : ℕ) × (w.process ≡ Some x)
            some_called w h = pick w.process refl
              where
                pick : (o : Option ℕ) → w.process ≡ o → (x : ℕ) × (w.process ≡ Some x)
                pick None e = absurd (h e)
                pick (Some x) e = (x, e)

  pub causal-order : IsCausalOrder ops listed
  causal-order = record {
    once = listed_once;
    only = listed_only;
    all = listed_all;
    known = λ v w i j knows. kept_known v w (listed_only v i) (listed_only w j) knows;
    met = λ r i read_it.
        let p = In-at ops r i in
        let w = found r p.0 p.1 read_it in (
          w.1,
          record {
            source = w.4;
            within = listed_all w.1 (source_kept r p.0 p.1 read_it);
            last = last_known r p.0 p.1 read_it;
          },
        );
  }
