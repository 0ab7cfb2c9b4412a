-- Cycles: the end of a path from a node on, and the way back of a search.
use Rattle.std.proofs.Common.{◌≡◌, ℕ, zero, suc, ◌+◌, ◌-◌, ◌≤◌, List, [], ◌∷◌, ◌++◌, length, slice_get}
use Rattle.std.proofs.Common.{Some, ◌⊎◌, inl, inr, refl, sym, ap, subst, arith}
use Rattle.std.proofs.lemmas.List.{length-append}
use Rattle.std.proofs.lemmas.Option.{slice_get_within}
use Rattle.reg_levels.specs.OrderGraph.Graph.{HasEdge, IsNodeCycle}
use Rattle.reg_levels.specs.OrderGraph.GraphWalk.{IsRound}
use Rattle.reg_levels.specs.declared.order_graph.edge.Edge.{Edge}
use Rattle.reg_levels.proofs.OrderGraphLemmas.Places.{place-push_cases, place-same}

-- a path from its end back, as far as place `low`; before its last node the cycle hasn't come to `node`
pub record IsTurned (path cycle : List ℕ) (low node : ℕ) : Type 0 where
  pub sizes : low + length cycle ≡ length path
  pub turned : (i j v : ℕ) → suc (i + j) ≡ length path → slice_get cycle i ≡ Some v → slice_get path j ≡
      Some v
  pub apart : (i : ℕ) → low ≤ i → slice_get path i ≡ Some node → ⊥

pub turned-none : (path : List ℕ) (node : ℕ) → IsTurned path [] (length path) node
turned-none path node = record {
  sizes = omega arith;
  turned = λ i j v a b. absurd (cc b);
  apart = λ i l a. omega (arith, l, slice_get_within path i node a);
}

pub turned-sizes : (path cycle : List ℕ) (low node v : ℕ) → IsTurned path cycle (suc low) node
    → (low + length (cycle ++ v ∷ []) ≡ length path)
turned-sizes path cycle low node v h = omega (arith, h.sizes, length-append cycle (v ∷ []))

pub turned-places : (path cycle : List ℕ) (low node v : ℕ) → IsTurned path cycle (suc low) node
    → slice_get path low ≡ Some v → (i j w : ℕ) → suc (i + j) ≡ length path
    → slice_get (cycle ++ v ∷ []) i ≡ Some w → slice_get path j ≡ Some w
turned-places path cycle low node v h at i j w sum a =
    elim (place-push_cases cycle v i w a) [
      | inl k ↦ h.turned i j w sum k
      | inr k ↦
          subst (λ x. slice_get path j ≡ Some x) (sym k.1)
          (subst (λ x. slice_get path x ≡ Some v)
          (let e : low ≡ j = omega (arith, sum, k.0, h.sizes) in e) at)
    ]

pub turned-more : (path cycle : List ℕ) (low node v : ℕ) → IsTurned path cycle (suc low) node
    → slice_get path low ≡ Some v → (v ≡ node → ⊥) → IsTurned path (cycle ++ v ∷ []) low node
turned-more path cycle low node v h at other = record {
  sizes = turned-sizes path cycle low node v h;
  turned = turned-places path cycle low node v h at;
  apart =
      λ i l a. elim (apart i l) [
        | inl e ↦ other (place-same path low v node at (subst (λ x. slice_get path x ≡ Some node) (sym e) a))
        | inr g ↦ h.apart i g a
      ];
}
  where
    apart : (i : ℕ) → low ≤ i → (low ≡ i) ⊎ (suc low ≤ i)
    apart i l = split low i l
      where
        split : (m n : ℕ) → m ≤ n → (m ≡ n) ⊎ (suc m ≤ n)
        split zero zero l = inl refl
        split zero (suc n) l = inr (omega arith)
        split (suc m) zero l = absurd (omega (arith, l))
        split (suc m) (suc n) l =
            elim (split m n (omega (arith, l))) [ inl e ↦ inl (ap suc e) | inr g ↦ inr (omega (arith, g)) ]

-- the path from its end back to the node from which an edge leads to its end
pub turned-cycle : (edges : List Edge) (path cycle : List ℕ) (low node : ℕ) → IsRound edges node path
    → IsTurned path cycle (suc low) node → slice_get path low ≡ Some node → IsNodeCycle edges (cycle ++ node
    ∷ [])
turned-cycle edges path cycle low node r h at =
    let sizes = turned-sizes path cycle low node node h in
    let turned = turned-places path cycle low node node h at in
    record {
      some = omega (arith, length-append cycle (node ∷ []));
      steps =
          λ i v w a b.
          let l = slice_get_within (cycle ++ node ∷ []) (suc i) w b in
          let j : ℕ = length path - suc (suc i) in
          r.leads j w v (turned (suc i) j w (omega (arith, l, sizes)) b)
          (turned i (suc j) v (omega (arith, l, sizes)) a);
      closes =
          λ v w a b.
          let l = slice_get_within (cycle ++ node ∷ []) 0 w b in
          let last : v ≡ node =
          place-same path low v node (turned (length (cycle ++ node ∷ []) - 1) low v (omega (
            arith,
            l,
            sizes,
          )) a) at in
          subst (λ x. HasEdge edges x w) (sym last)
          (r.behind (length path - 1) w (omega (arith, l, sizes))
          (turned 0 (length path - 1) w (omega (arith, l, sizes)) b));
    }
