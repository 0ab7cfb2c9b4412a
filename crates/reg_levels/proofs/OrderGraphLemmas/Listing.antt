-- The lists of the edges by their targets, one edge at a time.
use Rattle.std.proofs.Common.{◌≡◌, ℕ, zero, suc, List, [], ◌∷◌, ◌++◌, length, set, slice_get}
use Rattle.std.proofs.Common.{Some, ◌⊎◌, inl, inr, refl, sym, ap, ◌∙◌, subst, arith}
use Rattle.std.proofs.lemmas.List.{length-set, length-append}
use Rattle.reg_levels.specs.OrderGraph.Incoming.{IsNextEdge, AreLists}
use Rattle.reg_levels.specs.declared.order_graph.edge.Edge.{Edge}
use Rattle.reg_levels.proofs.OrderGraphLemmas.Places.{place-push_cases, place-set_cases, place-same}

-- no edge of the first m ends at v besides edge m, if that does
next-more : (edges : List Edge) (v m number : ℕ) (e : Edge) → slice_get edges m ≡ Some e → (e.to ≡ v → ⊥)
    → IsNextEdge edges v m number → IsNextEdge edges v (suc m) number
next-more edges v m number e at other h = record {
  within = omega (arith, h.within);
  ends = h.ends;
  last =
      λ k f a b c d. elim (cases k m) [
        | inl eq ↦ other (ap (λ (x : Edge). x.to) (place-same edges m e f at (ap (slice_get edges) (sym eq)
            ∙ c)) ∙ d)
        | inr ne ↦ h.last k f a (omega (arith, b, ne)) c d
      ];
}
  where
    cases : (k n : ℕ) → (k ≡ n) ⊎ (k ≡ n → ⊥)
    cases zero zero = inl refl
    cases zero (suc n) = inr (λ e. omega (arith, e))
    cases (suc k) zero = inr (λ e. omega (arith, e))
    cases (suc k) (suc n) = elim (cases k n) [
      | inl e ↦ inl (ap suc e)
      | inr f ↦ inr (λ e. f (omega (
        arith,
        e,
      )))
    ]

next-this : (edges : List Edge) (m : ℕ) (e : Edge) → slice_get edges m ≡ Some e
    → IsNextEdge edges e.to (suc m) (suc m)
next-this edges m e at = record {
  within = omega arith;
  ends =
      λ k f eq a. ap (λ (x : Edge). x.to) (place-same edges m f e
      (ap (slice_get edges) (let h : m ≡ k = omega (arith, eq) in h) ∙ a) at);
  last = λ k f a b c d. omega (arith, a, b);
}

pub lists-none : (nodes : ℕ) (edges : List Edge) (first : List ℕ) → length first ≡ nodes
    → ((v n : ℕ) → slice_get first v ≡ Some n → n ≡ 0) → AreLists nodes edges 0 first []
lists-none nodes edges first size zeros = record {
  heads = size;
  entries = refl;
  firsts = λ v n a. let z = zeros v n a in record {
    within = omega (arith, z);
    ends = λ k e eq b. omega (arith, z, eq);
    last = λ k e a b c d. omega (arith, b);
  };
  nexts = λ k n e a b. absurd (cc a);
}

pub lists-more : (nodes : ℕ) (edges : List Edge) (m : ℕ) (first next : List ℕ) (e : Edge) (number : ℕ)
    → AreLists nodes edges m first next → slice_get edges m ≡ Some e → slice_get first e.to ≡ Some number
    → AreLists nodes edges (suc m) (set first e.to (suc m)) (next ++ number ∷ [])
lists-more nodes edges m first next e number h at old = record {
  heads = length-set first e.to (suc m) ∙ h.heads;
  entries = omega (arith, length-append next (number ∷ []), h.entries);
  firsts =
      λ v n a. elim (place-set_cases first e.to v (suc m) n a) [
        | inl k ↦
            subst (λ x. IsNextEdge edges x (suc m) n) (sym k.0)
            (subst (IsNextEdge edges e.to (suc m)) (sym k.1) (next-this edges m e at))
        | inr k ↦ next-more edges v m n e at (λ f. k.0 (sym f)) (h.firsts v n k.1)
      ];
  nexts =
      λ k n f a b. elim (place-push_cases next number k n a) [
        | inl c ↦ h.nexts k n f c b
        | inr c ↦
            let at_m : k ≡ m = c.0 ∙ h.entries in
            let same : f ≡ e = place-same edges m f e (ap (slice_get edges) (sym at_m) ∙ b) at in
            subst (λ x. IsNextEdge edges x k n) (ap (λ (x : Edge). x.to) (sym same))
            (subst (λ x. IsNextEdge edges e.to x n) (sym at_m)
            (subst (IsNextEdge edges e.to m) (sym c.1) (h.firsts e.to number old)))
      ];
}
