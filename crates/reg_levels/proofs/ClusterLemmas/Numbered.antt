-- Numbers for clusters, one more at a time.
use Rattle.std.proofs.Common.{◌≡◌, ℕ, ◌+◌, ◌<◌, List, [], ◌∷◌, ◌++◌, length, slice_get}
use Rattle.std.proofs.Common.{Option, Some, None}
use Rattle.std.proofs.Common.{◌⊎◌, inl, inr, sym, ap, ◌∙◌, arith}
use Rattle.std.proofs.lemmas.Bool.{cases_order}
use Rattle.history_model.proofs.Lists.{slice_get-push, slice_get-append}
use Rattle.reg_levels.specs.Clusters.Steps.{IsNumberedBelow, StandAtWrites}
use Rattle.reg_levels.specs.declared.clusters.table.ClusterEnds.{ClusterEnds}
use Rattle.reg_levels.proofs.ClusterLemmas.Pushes.{length-push, get-push, get-push_cases, get-below}

module _ (ends : List (Option ClusterEnds)) (i : ℕ) (clusters : List ClusterEnds) (numbers : List (Option ℕ))
    (h : IsNumberedBelow ends i clusters numbers) where
  split : (q : ℕ) → q < i + 1 → (q < i) ⊎ (q ≡ i)
  split q l = elim (cases_order q i) [
    | inl e ↦ inr e
    | inr o ↦ elim o [ inl m ↦ inl m | inr m ↦ absurd (omega arith) ]
  ]

  pub numbering-none : slice_get ends i ≡ Some None
      → IsNumberedBelow ends (i + 1) clusters (numbers ++ None ∷ [])
  numbering-none e = record {
    places = omega (arith, length-push numbers None, h.places);
    some = λ q c l g. elim (split q l) [
      | inl m ↦ let r = h.some q c m g in (r.0, get-push numbers None (Some r.0) q r.1, r.2)
      | inr m ↦ let bad : Some None ≡ Some (Some c) = sym e ∙ (sym (ap (slice_get ends) m)
          ∙ g) in absurd (cc bad)
    ];
    none = λ q l g. elim (split q l) [
      | inl m ↦ get-push numbers None None q (h.none q m g)
      | inr m ↦ ap (slice_get (numbers ++ None ∷ [])) (m ∙ sym h.places) ∙ slice_get-push numbers None
    ];
    each = λ k c g. let r = h.each k c g in (r.0, omega (arith, r.1), r.2);
    ascending = h.ascending;
    few = omega (arith, h.few);
  }

  pub numbering-some : StandAtWrites ends → (c : ClusterEnds) → slice_get ends i ≡ Some (Some c)
      → IsNumberedBelow ends (i + 1) (clusters ++ c ∷ []) (numbers ++ Some (length clusters) ∷ [])
  numbering-some stand c e = record {
    places = omega (arith, length-push numbers (Some (length clusters)), h.places);
    some = λ q d l g. elim (split q l) [
      | inl m ↦
          let r = h.some q d m g in
          (r.0, get-push numbers (Some (length clusters)) (Some r.0) q r.1, get-push clusters c d r.0 r.2)
      | inr m ↦
          let same : Some (Some c) ≡ Some (Some d) = sym e ∙ (sym (ap (slice_get ends) m) ∙ g) in
          let is : c ≡ d = cc same in (
            length clusters,
            ap (slice_get (numbers ++ Some (length clusters) ∷ [])) (m ∙ sym h.places)
                ∙ slice_get-push numbers (Some (length clusters)),
            slice_get-push clusters c ∙ ap Some is,
          )
    ];
    none = λ q l g. elim (split q l) [
      | inl m ↦ get-push numbers (Some (length clusters)) None q (h.none q m g)
      | inr m ↦
          let bad : Some (Some c) ≡ Some None = sym e ∙ (sym (ap (slice_get ends) m) ∙ g) in absurd (cc bad)
    ];
    each = λ k d g. elim (get-push_cases clusters c d k g) [
      | inl t ↦ let r = h.each k d t in (r.0, omega (arith, r.1), r.2)
      | inr t ↦ (i, omega arith, e ∙ ap (λ x. Some (Some x)) t.1)
    ];
    ascending = λ j k d f l g g'. elim (get-push_cases clusters c f k g') [
      | inl t ↦ h.ascending j k d f l (old j d g (omega (arith, get-below clusters f k t))) t
      | inr t ↦
          let r = h.each j d (old j d g (omega (arith, t.0))) in
          let left = stand r.0 d r.2 in
          let right = stand i c e in
          let is = ap (λ (x : ClusterEnds). x.write) t.1 in
          omega (arith, r.1, left, right, is)
    ];
    few = omega (arith, h.few, length-push clusters c);
  }
    where
      old : (j : ℕ) (d : ClusterEnds) → slice_get (clusters ++ c ∷ []) j ≡ Some d → j < length clusters
          → slice_get clusters j ≡ Some d
      old j d g l = sym (slice_get-append clusters (c ∷ []) j l) ∙ g
