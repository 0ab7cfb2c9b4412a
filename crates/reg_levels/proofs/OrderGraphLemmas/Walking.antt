-- What a walk back along the edges keeps, at its beginning, at each step and at its end.
use Rattle.std.proofs.Common.{◌≡◌, ℕ, zero, suc, ◌<◌, ◌≤◌, List, [], ◌∷◌, ◌++◌, length, set, slice_get}
use Rattle.std.proofs.Common.{replicate}
use Rattle.std.proofs.Common.{Some, sum, ◌⊎◌, inl, inr, refl, sym, ap, ◌∙◌, subst, arith}
use Rattle.std.proofs.lemmas.List.{length-set, length-append, length-replicate, get_or-replicate}
use Rattle.std.proofs.lemmas.List.Sums.{sum_by-set}
use Rattle.std.proofs.lemmas.Option.{slice_get_within, get_or_from_slice_get}
use Rattle.reg_levels.specs.OrderGraph.Graph.{HasEdge, IsForwardOrder}
use Rattle.reg_levels.specs.OrderGraph.Incoming.{AreLists, IsNextEdge}
use Rattle.reg_levels.specs.OrderGraph.GraphWalk.{EndsAt, IsBehind, IsEdgeFollowed, IsWalked}
use Rattle.reg_levels.specs.declared.order_graph.edge.Edge.{Edge}
use Rattle.reg_levels.specs.declared.order_graph.walk.NodeMark.{NodeMark}
use Rattle.reg_levels.specs.declared.order_graph.walk.NodeMark.TheVariants.{New, Open, Done}
use Rattle.reg_levels.proofs.OrderGraphLemmas.Places.{place-push, place-push_kept, place-push_cases}
use Rattle.reg_levels.proofs.OrderGraphLemmas.Places.{place-set}
use Rattle.reg_levels.proofs.OrderGraphLemmas.Places.{place-set_other, place-set_cases}
use Rattle.reg_levels.proofs.OrderGraphLemmas.Places.{place-inside, place-same, place-edge}

-- ---- the beginning

pub walked-none : (edges : List Edge) (ahead : List ℕ) (marks : List NodeMark) → length ahead ≡ length marks
    → ((v n : ℕ) → slice_get ahead v ≡ Some n → IsNextEdge edges v (length edges) n)
    → ((v : ℕ) (m : NodeMark) → slice_get marks v ≡ Some m → m ≡ New) → IsWalked edges ahead marks [] []
walked-none edges ahead marks size first new = record {
  sizes = size;
  numbers = λ v n a. let h = first v n a in record { within = h.within; ends = h.ends };
  followed =
      λ v n k e a b c d. absurd ((first v n a).last k e b (slice_get_within edges k e c) c d);
  opened = λ v a. absurd (let h = new v Open a in cc h);
  on_path = λ i v a. absurd (cc a);
  path_once = λ i j v a b. absurd (cc a);
  path_leads = λ i v u a b. absurd (cc a);
  done = λ v a. absurd (let h = new v Done a in cc h);
  in_placed = λ i v a. absurd (cc a);
  placed_once = λ i j v a b. absurd (cc a);
  forward = λ j u v a b. absurd (cc a);
}

-- a walk whose edges are all ahead, whose marks are all new, and whose lists are empty
pub walked-begin : (nodes : ℕ) (edges : List Edge) (first next ahead : List ℕ) (marks : List NodeMark)
    (path placed : List ℕ) → AreLists nodes edges (length edges) first next → ahead ≡ first
    → marks ≡ replicate nodes New → path ≡ [] → placed ≡ [] → IsWalked edges ahead marks path placed
walked-begin nodes edges first next ahead marks path placed l a m p q =
    subst (λ x. IsWalked edges ahead marks path x) (sym q)
    (subst (λ x. IsWalked edges ahead marks x []) (sym p)
    (walked-none edges ahead marks
    (omega (arith, ap length a, ap length m, length-replicate nodes New, l.heads))
    (λ v n at. l.firsts v n (subst (λ xs. slice_get xs v ≡ Some n) a at))
    (λ v k at. let here = subst (λ xs. slice_get xs v ≡ Some k) m at in
    let within = slice_get_within (replicate nodes New) v k here in
    sym (get_or_from_slice_get (replicate nodes New) v k New here)
    ∙ get_or-replicate nodes v New New (omega (arith, within, length-replicate nodes New)))))

-- ---- a node is put at the end of the path

new-apart : (marks : List NodeMark) (v w : ℕ) (m : NodeMark) → slice_get marks v ≡ Some New → slice_get
    marks w ≡ Some m
    → (m ≡ New → ⊥) → w ≡ v → ⊥
new-apart marks v w m a b c e =
    c (place-same marks w m New b (ap (slice_get marks) e ∙ a))

followed-kept : (marks : List NodeMark) (path : List ℕ) (v w u : ℕ) → slice_get marks v ≡ Some New
    → IsEdgeFollowed marks path w u → IsEdgeFollowed (set marks v Open) (path ++ v ∷ []) w u
followed-kept marks path v w u new (inl d) =
    inl (place-set_other marks v u Open (new-apart marks v u Done new d (λ e. cc e)) ∙ d)
followed-kept marks path v w u new (inr h) =
    inr (h.0, h.1, h.2, place-push_kept path v h.0 w h.3, place-push_kept path v h.1 u h.4)

pub walked-opened : (edges : List Edge) (ahead : List ℕ) (marks : List NodeMark) (path placed : List ℕ) (v :
    ℕ)
    → IsWalked edges ahead marks path placed → slice_get marks v ≡ Some New → IsBehind edges v path
    → IsWalked edges ahead (set marks v Open) (path ++ v ∷ []) placed
walked-opened edges ahead marks path placed v h new behind =
    let within : v < length marks = slice_get_within marks v New new in
    let fresh : (i : ℕ) → slice_get path i ≡ Some v → ⊥ =
    λ i a. absurd (let e = place-same marks v Open New (h.on_path i v a) new in cc e) in
    record {
      sizes = h.sizes ∙ sym (length-set marks v Open);
      numbers = h.numbers;
      followed = λ w n k e a b c d. followed-kept marks path v w e.from new (h.followed w n k e a b c d);
      opened =
          λ w a. elim (place-set_cases marks v w Open Open a) [
            | inl k ↦ (
              length path,
              subst (λ x. slice_get (path ++ v ∷ []) (length path) ≡ Some x) (sym k.0)
                  (place-push path v),
            )
            | inr k ↦ let o = h.opened w k.1 in (o.0, place-push_kept path v o.0 w o.1)
          ];
      on_path =
          λ i w a. elim (place-push_cases path v i w a) [
            | inl k ↦
                let o = h.on_path i w k in
                place-set_other marks v w Open (new-apart marks v w Open new o (λ e. cc e)) ∙ o
            | inr k ↦ subst (λ x. slice_get (set marks v Open) x ≡ Some Open) (sym k.1) (place-set marks v
                Open within)
          ];
      path_once =
          λ i j w a b. elim (place-push_cases path v i w a) [
            | inl k ↦ elim (place-push_cases path v j w b) [
              | inl l ↦ h.path_once i j w k l
              | inr l ↦ absurd (fresh i (subst (λ x. slice_get path i ≡ Some x) l.1 k))
            ]
            | inr k ↦ elim (place-push_cases path v j w b) [
              | inl l ↦ absurd (fresh j (subst (λ x. slice_get path j ≡ Some x) k.1 l))
              | inr l ↦ k.0 ∙ sym l.0
            ]
          ];
      path_leads =
          λ i w u a b. elim (place-push_cases path v (suc i) u b) [
            | inl k ↦ elim (place-push_cases path v i w a) [
              | inl l ↦ h.path_leads i w u l k
              | inr l ↦ absurd (omega (arith, l.0, slice_get_within path (suc i) u k))
            ]
            | inr k ↦ elim (place-push_cases path v i w a) [
              | inl l ↦ subst (λ x. HasEdge edges x w) (sym k.1) (behind i w k.0 l)
              | inr l ↦ absurd (omega (arith, l.0, k.0))
            ]
          ];
      done =
          λ w a. elim (place-set_cases marks v w Open Done a) [
            | inl k ↦ absurd (let e = k.1 in cc e)
            | inr k ↦ h.done w k.1
          ];
      in_placed =
          λ i w a. let d = h.in_placed i w a in
          place-set_other marks v w Open (new-apart marks v w Done new d (λ e. cc e)) ∙ d;
      placed_once = h.placed_once;
      forward = h.forward;
    }

-- ---- the node at the end of the path is placed

-- what was followed from a node stays so when the end of the path is placed
followed-closed : (marks : List NodeMark) (rest : List ℕ) (v w u : ℕ) → v < length marks
    → IsEdgeFollowed marks (rest ++ v ∷ []) w u → ((i j : ℕ) → i < j → slice_get (rest ++ v ∷ []) j ≡ Some u
    → slice_get (rest ++ v ∷ []) i ≡ Some w → (slice_get rest i ≡ Some w) × ((slice_get rest j ≡ Some u) ⊎
    (u ≡ v)))
    → IsEdgeFollowed (set marks v Done) rest w u
followed-closed marks rest v w u within (inl d) split =
    elim (at-cases v u) [
      | inl e ↦ inl (subst (λ x. slice_get (set marks v Done) x ≡ Some Done) e (place-set marks v Done
          within))
      | inr n ↦ inl (place-set_other marks v u Done (λ e. n (sym e)) ∙ d)
    ]
  where
    at-cases : (k n : ℕ) → (k ≡ n) ⊎ (k ≡ n → ⊥)
    at-cases zero zero = inl refl
    at-cases zero (suc n) = inr (λ e. omega (arith, e))
    at-cases (suc k) zero = inr (λ e. omega (arith, e))
    at-cases (suc k) (suc n) =
        elim (at-cases k n) [ inl e ↦ inl (ap suc e) | inr f ↦ inr (λ e. f (omega (arith, e))) ]
followed-closed marks rest v w u within (inr h) split =
    let s = split h.0 h.1 h.2 h.4 h.3 in
    elim (s.1) [
      | inl k ↦ inr (h.0, h.1, h.2, s.0, k)
      | inr e ↦ inl (subst (λ x. slice_get (set marks v Done) x ≡ Some Done) (sym e) (place-set marks v Done
          within))
    ]

-- places i below j of a path: i lies before its end
path-split : (rest : List ℕ) (v w u i j : ℕ) → i < j → slice_get (rest ++ v ∷ []) j ≡ Some u
    → slice_get (rest ++ v ∷ []) i ≡ Some w → (slice_get rest i ≡ Some w) × ((slice_get rest j ≡ Some u) ⊎
    (u ≡ v))
path-split rest v w u i j l a b =
    elim (place-push_cases rest v j u a) [
      | inl k ↦ elim (place-push_cases rest v i w b) [
        | inl m ↦ (m, inl k)
        | inr m ↦ absurd (omega (arith, m.0, slice_get_within rest j u k))
      ]
      | inr k ↦ elim (place-push_cases rest v i w b) [
        | inl m ↦ (m, inr k.1)
        | inr m ↦ absurd (omega (arith, m.0, k.0))
      ]
    ]

pub walked-closed : (edges : List Edge) (ahead : List ℕ) (marks : List NodeMark) (rest placed : List ℕ) (v :
    ℕ)
    → IsWalked edges ahead marks (rest ++ v ∷ []) placed → slice_get ahead v ≡ Some 0
    → IsWalked edges ahead (set marks v Done) rest (placed ++ v ∷ [])
walked-closed edges ahead marks rest placed v h none =
    let top = place-push rest v in
    let is_open : slice_get marks v ≡ Some Open = h.on_path (length rest) v top in
    let within : v < length marks = slice_get_within marks v Open is_open in
    let kept : (i w : ℕ) → slice_get rest i ≡ Some w → w ≡ v → ⊥ =
    λ i w a e. omega (
      arith,
      slice_get_within rest i w a,
      h.path_once i (length rest) v (place-push_kept rest v i v (subst (λ x. slice_get rest i ≡ Some x) e
          a)) top,
    ) in
    let fresh : (i : ℕ) → slice_get placed i ≡ Some v → ⊥ =
    λ i a. absurd (let e = place-same marks v Done Open (h.in_placed i v a) is_open in cc e) in
    let sources : (u : ℕ) → HasEdge edges u v → slice_get marks u ≡ Some Done =
    λ u l. let e = place-edge edges u v l in
    elim (h.followed v 0 e.0 e.1 none (omega arith) e.2 e.4) [
      | inl d ↦ subst (λ x. slice_get marks x ≡ Some Done) e.3 d
      | inr k ↦ absurd (omega (
        arith,
        k.2,
        h.path_once k.0 (length rest) v k.3 top,
        slice_get_within (rest ++ v ∷ []) k.1 _ k.4,
        length-append rest (v ∷ []),
      ))
    ] in
    record {
      sizes = h.sizes ∙ sym (length-set marks v Done);
      numbers = h.numbers;
      followed =
          λ w n k e a b c d. followed-closed marks rest v w e.from within (h.followed w n k e a b c d)
          (λ i j l p q. path-split rest v w e.from i j l p q);
      opened =
          λ w a. elim (place-set_cases marks v w Done Open a) [
            | inl k ↦ absurd (let e = k.1 in cc e)
            | inr k ↦ let o = h.opened w k.1 in elim (place-push_cases rest v o.0 w o.1) [
              | inl m ↦ (o.0, m)
              | inr m ↦ absurd (k.0 m.1)
            ]
          ];
      on_path =
          λ i w a. place-set_other marks v w Done (kept i w a) ∙ h.on_path i w (place-push_kept rest v i w a);
      path_once =
          λ i j w a b. h.path_once i j w (place-push_kept rest v i w a) (place-push_kept rest v j w b);
      path_leads =
          λ i w u a b. h.path_leads i w u (place-push_kept rest v i w a) (place-push_kept rest v (suc i) u b);
      done =
          λ w a. elim (place-set_cases marks v w Done Done a) [
            | inl k ↦ (
              length placed,
              subst (λ x. slice_get (placed ++ v ∷ []) (length placed) ≡ Some x)
                  (sym k.0) (place-push placed v),
            )
            | inr k ↦ let d = h.done w k.1 in (d.0, place-push_kept placed v d.0 w d.1)
          ];
      in_placed =
          λ i w a. elim (place-push_cases placed v i w a) [
            | inl k ↦
                place-set_other marks v w Done (λ e. fresh i (subst (λ x. slice_get placed i ≡ Some x) e k))
                ∙ h.in_placed i w k
            | inr k ↦ subst (λ x. slice_get (set marks v Done) x ≡ Some Done) (sym k.1) (place-set marks v
                Done within)
          ];
      placed_once =
          λ i j w a b. elim (place-push_cases placed v i w a) [
            | inl k ↦ elim (place-push_cases placed v j w b) [
              | inl l ↦ h.placed_once i j w k l
              | inr l ↦ absurd (fresh i (subst (λ x. slice_get placed i ≡ Some x) l.1 k))
            ]
            | inr k ↦ elim (place-push_cases placed v j w b) [
              | inl l ↦ absurd (fresh j (subst (λ x. slice_get placed j ≡ Some x) k.1 l))
              | inr l ↦ k.0 ∙ sym l.0
            ]
          ];
      forward =
          λ j u w a l. elim (place-push_cases placed v j w a) [
            | inl k ↦ let f = h.forward j u w k l in (f.0, f.1, place-push_kept placed v f.0 u f.2)
            | inr k ↦
                let d = h.done u (sources u (subst (λ x. HasEdge edges u x) k.1 l)) in (
                  d.0,
                  omega (arith, slice_get_within placed d.0 u d.1, k.0),
                  place-push_kept placed v d.0 u
                      d.1,
                )
          ];
    }

-- ---- an edge is followed

pub walked-followed : (edges : List Edge) (ahead : List ℕ) (marks : List NodeMark) (path placed : List ℕ)
    (v k number : ℕ) (e : Edge) → IsWalked edges ahead marks path placed → slice_get ahead v ≡ Some (suc k)
    → slice_get edges k ≡ Some e → IsNextEdge edges v k number → IsEdgeFollowed marks path v e.from
    → IsWalked edges (set ahead v number) marks path placed
walked-followed edges ahead marks path placed v k number e h at edge next this = record {
  sizes = length-set ahead v number ∙ h.sizes;
  numbers =
      λ w n a. elim (place-set_cases ahead v w number n a) [
        | inl c ↦ subst (λ x. EndsAt edges x n) (sym c.0) (subst (EndsAt edges v) (sym c.1) (record {
          within = omega (arith, next.within, slice_get_within edges k e edge);
          ends = next.ends;
        }))
        | inr c ↦ h.numbers w n c.1
      ];
  followed =
      λ w n j f a b c d. elim (place-set_cases ahead v w number n a) [
        | inl m ↦
            let to_v : f.to ≡ v = d ∙ m.0 in
            subst (λ x. IsEdgeFollowed marks path x f.from) (sym m.0)
            (from_place j f (omega (arith, b, m.1)) c to_v (order j k))
        | inr m ↦ h.followed w n j f m.1 b c d
      ];
  opened = h.opened;
  on_path = h.on_path;
  path_once = h.path_once;
  path_leads = h.path_leads;
  done = h.done;
  in_placed = h.in_placed;
  placed_once = h.placed_once;
  forward = h.forward;
}
  where
    order : (a b : ℕ) → (a < b) ⊎ ((a ≡ b) ⊎ (suc b ≤ a))
    order zero zero = inr (inl refl)
    order zero (suc b) = inl (omega arith)
    order (suc a) zero = inr (inr (omega arith))
    order (suc a) (suc b) =
        elim (order a b) [
          | inl l ↦ inl (omega (arith, l))
          | inr r ↦ elim r [ inl q ↦ inr (inl (ap suc q)) | inr q ↦ inr (inr (omega (arith, q))) ]
        ]

    from_place : (j : ℕ) (f : Edge) → number ≤ j → slice_get edges j ≡ Some f → f.to ≡ v
        → (j < k) ⊎ ((j ≡ k) ⊎ (suc k ≤ j)) → IsEdgeFollowed marks path v f.from
    from_place j f b c d (inl l) = absurd (next.last j f b l c d)
    from_place j f b c d (inr (inl q)) =
        let same : e ≡ f = place-same edges k e f edge (ap (slice_get edges) (sym q) ∙ c) in
        subst (λ (x : Edge). IsEdgeFollowed marks path v x.from) same this
    from_place j f b c d (inr (inr q)) = h.followed v (suc k) j f at q c d

-- ---- the end

pub walked-all : (edges : List Edge) (ahead : List ℕ) (marks : List NodeMark) (placed : List ℕ) (nodes : ℕ)
    → IsWalked edges ahead marks [] placed → length marks ≡ nodes
    → ((v : ℕ) → v < nodes → slice_get marks v ≡ Some New → ⊥) → IsForwardOrder nodes edges placed
walked-all edges ahead marks placed nodes h size met = record {
  all =
      λ v l. let m = place-inside marks v (omega (arith, l, size)) in from_mark v l m.0 m.1;
  only = λ i v a. omega (arith, size, slice_get_within marks v Done (h.in_placed i v a));
  once = h.placed_once;
  forward =
      λ i j v w a b l. let f = h.forward j v w b l in omega (arith, f.1, h.placed_once i f.0 v a f.2);
}
  where
    from_mark : (v : ℕ) → v < nodes → (m : NodeMark) → slice_get marks v ≡ Some m
        → (i : ℕ) × (slice_get placed i ≡ Some v)
    from_mark v l New a = absurd (met v l a)
    from_mark v l Open a = let o = h.opened v a in absurd (cc o.1)
    from_mark v l Done a = h.done v a

-- ---- what is left

-- a lower number at a place makes the sum less
pub sum-set_less : (ns : List ℕ) (i m n : ℕ) → slice_get ns i ≡ Some m → n < m → sum (set ns i n) < sum ns
sum-set_less ns i m n a l =
    let s = sum_by-set (λ x. x) ns i n 0 (slice_get_within ns i m a) in
    let e = get_or_from_slice_get ns i m 0 a in
    omega (arith, s, e, l)
