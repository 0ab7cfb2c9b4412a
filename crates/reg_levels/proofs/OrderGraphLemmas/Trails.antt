-- A search back from a node: the nodes that it met, and the way back from one of them.
use Rattle.std.proofs.Common.{◌≡◌, ℕ, suc, ◌-◌, ◌<◌, List, [], ◌∷◌, ◌++◌, length, slice_get}
use Rattle.std.proofs.Common.{Some, ◌⊎◌, inl, inr, refl, sym, ap, ◌∙◌, subst, arith}
use Rattle.std.proofs.lemmas.List.{length-append}
use Rattle.std.proofs.lemmas.Option.{slice_get_within}
use Rattle.reg_levels.specs.OrderGraph.Graph.{HasEdge, IsNodeCycle}
use Rattle.reg_levels.specs.OrderGraph.Shorter.{AreMet}
use Rattle.reg_levels.specs.declared.order_graph.edge.Edge.{Edge}
use Rattle.reg_levels.specs.declared.order_graph.shorter.MetNode.{MetNode}
use Rattle.reg_levels.proofs.OrderGraphLemmas.Places.{place-push, place-push_kept, place-push_cases}
use Rattle.reg_levels.proofs.OrderGraphLemmas.Places.{place-same}

-- ---- the nodes that were met

pub met-none : (nodes : ℕ) (edges : List Edge) (start : ℕ) (met : List MetNode) → start < nodes
    → met ≡ record { node = start; by = 0 } ∷ [] → AreMet nodes edges start met
met-none nodes edges start met l e =
    let one : List MetNode = record { node = start; by = 0 } ∷ [] in
    subst (AreMet nodes edges start) (sym e) (record {
      first = λ m a. let q : record { node = start; by = 0 } ≡ m = cc a in ap (λ (x : MetNode). x.node) (sym
          q);
      some = omega arith;
      among =
          λ i m a. elim (place-push_cases [] (record { node = start; by = 0 }) i m a) [
            | inl k ↦ absurd (cc k)
            | inr k ↦ subst (λ (x : MetNode). x.node < nodes) (sym k.1) l
          ];
      before = λ i m a. absurd (omega (arith, slice_get_within one (suc i) m a));
      leads = λ i m n a b. absurd (omega (arith, slice_get_within one (suc i) m a));
    })

pub met-grows : (nodes : ℕ) (edges : List Edge) (start : ℕ) (met : List MetNode) (place from : ℕ) (at :
    MetNode)
    → AreMet nodes edges start met → slice_get met place ≡ Some at → HasEdge edges from at.node → from < nodes
    → AreMet nodes edges start (met ++ record { node = from; by = place } ∷ [])
met-grows nodes edges start met place from at h there leads l =
    let new : MetNode = record { node = from; by = place } in
    let within = slice_get_within met place at there in
    record {
      first =
          λ m a. elim (place-push_cases met new 0 m a) [
            | inl k ↦ h.first m k
            | inr k ↦ absurd (omega (arith, k.0, h.some))
          ];
      some = omega (arith, h.some, length-append met (new ∷ []));
      among =
          λ i m a. elim (place-push_cases met new i m a) [
            | inl k ↦ h.among i m k
            | inr k ↦ subst (λ (x : MetNode). x.node < nodes) (sym k.1) l
          ];
      before =
          λ i m a. elim (place-push_cases met new (suc i) m a) [
            | inl k ↦ h.before i m k
            | inr k ↦ subst (λ (x : MetNode). x.by < suc i) (sym k.1) (omega (arith, within, k.0))
          ];
      leads =
          λ i m n a b. elim (place-push_cases met new (suc i) m a) [
            | inl k ↦
                elim (place-push_cases met new m.by n b) [
                  | inl j ↦ h.leads i m n k j
                  | inr j ↦ absurd (omega (arith, j.0, h.before i m k, slice_get_within met (suc i) m k))
                ]
            | inr k ↦
                let by : slice_get (met ++ new ∷ []) place ≡ Some n =
                subst (λ (x : MetNode). slice_get (met ++ new ∷ []) x.by ≡ Some n) k.1 b in
                let same : at ≡ n = place-same (met ++ new ∷ []) place at n (place-push_kept met new place
                at there) by in
                subst (λ (x : MetNode). HasEdge edges x.node n.node) (sym k.1)
                (subst (λ (x : MetNode). HasEdge edges from x.node) same leads)
          ];
    }

-- what stands at a place stays there when a node is noted, or nothing is
pub met-kept : (old new : List MetNode) (x : MetNode) → (new ≡ old) ⊎ (new ≡ old ++ x ∷ []) → (i : ℕ)
    → i < length old → (m : MetNode) → slice_get new i ≡ Some m → slice_get old i ≡ Some m
met-kept old new x (inl e) i l m a = subst (λ xs. slice_get xs i ≡ Some m) e a
met-kept old new x (inr e) i l m a =
    elim (place-push_cases old x i m (subst (λ xs. slice_get xs i ≡ Some m) e a)) [
      | inl k ↦ k
      | inr k ↦ absurd (omega (arith, l, k.0))
    ]

pub met-noted : (nodes : ℕ) (edges : List Edge) (start : ℕ) (old new : List MetNode) (place from : ℕ) (at :
    MetNode)
    → AreMet nodes edges start old → slice_get old place ≡ Some at → HasEdge edges from at.node → from < nodes
    → (new ≡ old) ⊎ (new ≡ old ++ record { node = from; by = place } ∷ []) → AreMet nodes edges start new
met-noted nodes edges start old new place from at h there leads l (inl e) = subst (AreMet nodes edges start)
    (sym e) h
met-noted nodes edges start old new place from at h there leads l (inr e) =
    subst (AreMet nodes edges start) (sym e) (met-grows nodes edges start old place from at h there leads l)

-- ---- the way back

-- the nodes from that at place `from` on, whose last one leads to that at `place`
pub record IsTrail (edges : List Edge) (met : List MetNode) (from place : ℕ) (trail : List ℕ) : Type 0 where
  pub starts : (v : ℕ) (m : MetNode) → slice_get trail 0 ≡ Some v → slice_get met from ≡ Some m → v ≡ m.node
  pub empty : length trail ≡ 0 → place ≡ from
  pub steps : (i v w : ℕ) → slice_get trail i ≡ Some v → slice_get trail (suc i) ≡ Some w → HasEdge edges v w
  pub hangs : (i v : ℕ) (m : MetNode) → suc i ≡ length trail → slice_get trail i ≡ Some v
      → slice_get met place ≡ Some m → HasEdge edges v m.node

pub trail-none : (edges : List Edge) (met : List MetNode) (from : ℕ) → IsTrail edges met from from []
trail-none edges met from = record {
  starts = λ v m a b. absurd (cc a);
  empty = λ e. refl;
  steps = λ i v w a b. absurd (cc a);
  hangs = λ i v m e a b. absurd (omega (arith, e));
}

trail-starts : (edges : List Edge) (met : List MetNode) (from place : ℕ) (trail : List ℕ) (at : MetNode)
    → IsTrail edges met from place trail → slice_get met place ≡ Some at → (v : ℕ) (m : MetNode)
    → slice_get (trail ++ at.node ∷ []) 0 ≡ Some v → slice_get met from ≡ Some m → v ≡ m.node
trail-starts edges met from place trail at h there v m a b =
    elim (place-push_cases trail at.node 0 v a) [
      | inl k ↦ h.starts v m k b
      | inr k ↦
          k.1 ∙ ap (λ (x : MetNode). x.node)
          (place-same met from at m (subst (λ n. slice_get met n ≡ Some at) (h.empty (sym k.0)) there) b)
    ]

trail-steps : (edges : List Edge) (met : List MetNode) (from place : ℕ) (trail : List ℕ) (at : MetNode)
    → IsTrail edges met from place trail → slice_get met place ≡ Some at → (i v w : ℕ)
    → slice_get (trail ++ at.node ∷ []) i ≡ Some v → slice_get (trail ++ at.node ∷ []) (suc i) ≡ Some w
    → HasEdge edges v w
trail-steps edges met from place trail at h there i v w a b =
    elim (place-push_cases trail at.node (suc i) w b) [
      | inl k ↦ elim (place-push_cases trail at.node i v a) [
        | inl j ↦ h.steps i v w j k
        | inr j ↦ absurd (omega (arith, j.0, slice_get_within trail (suc i) w k))
      ]
      | inr k ↦ elim (place-push_cases trail at.node i v a) [
        | inl j ↦ subst (HasEdge edges v) (sym k.1) (h.hangs i v at k.0 j there)
        | inr j ↦ absurd (omega (arith, j.0, k.0))
      ]
    ]

pub trail-more : (nodes : ℕ) (edges : List Edge) (start : ℕ) (met : List MetNode) (from place : ℕ) (trail :
    List ℕ)
    (at : MetNode) → AreMet nodes edges start met → IsTrail edges met from (suc place) trail
    → slice_get met (suc place) ≡ Some at → IsTrail edges met from at.by (trail ++ at.node ∷ [])
trail-more nodes edges start met from place trail at are h there = record {
  starts = trail-starts edges met from (suc place) trail at h there;
  empty = λ e. absurd (omega (arith, e, length-append trail (at.node ∷ [])));
  steps = trail-steps edges met from (suc place) trail at h there;
  hangs =
      λ i v m e a b. elim (place-push_cases trail at.node i v a) [
        | inl k ↦ absurd (omega (arith, e, length-append trail (at.node ∷ []), slice_get_within trail i v k))
        | inr k ↦ subst (λ x. HasEdge edges x m.node) (sym k.1) (are.leads place at m there b)
      ];
}

-- the way back to the start, from which an edge leads to the first node
pub trail-cycle : (nodes : ℕ) (edges : List Edge) (start : ℕ) (met : List MetNode) (from : ℕ) (trail : List ℕ)
    (at first : MetNode) → AreMet nodes edges start met → IsTrail edges met from 0 trail
    → slice_get met 0 ≡ Some at → slice_get met from ≡ Some first → HasEdge edges start first.node
    → IsNodeCycle edges (trail ++ at.node ∷ [])
trail-cycle nodes edges start met from trail at first are h there here leads =
    let long = length-append trail (at.node ∷ []) in
    record {
      some = omega (arith, long);
      steps = trail-steps edges met from 0 trail at h there;
      closes =
          λ v w a b.
          let last : v ≡ start =
          place-same (trail ++ at.node ∷ []) (length trail) v at.node
          (subst (λ n. slice_get (trail ++ at.node ∷ []) n ≡ Some v)
          (let e : length (trail ++ at.node ∷ []) - 1 ≡ length trail = omega (arith, long) in e) a)
          (place-push trail at.node)
          ∙ are.first at there in
          subst (λ x. HasEdge edges x w) (sym last)
          (subst (HasEdge edges start) (sym (trail-starts edges met from 0 trail at h there w first b here))
          leads);
    }
