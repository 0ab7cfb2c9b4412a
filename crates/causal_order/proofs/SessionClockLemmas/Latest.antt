-- The last place of each number, with one place more.
use Rattle.std.proofs.Common.{◌≡◌, ℕ, ◌+◌, ◌<◌, List, [], ◌∷◌, ◌++◌, length, set, slice_get, replicate}
use Rattle.std.proofs.Common.{Option, Some, None, inl, inr, sym, ap, subst, ◌∙◌, arith}
use Rattle.std.proofs.lemmas.Bool.{cases_order}
use Rattle.std.proofs.lemmas.Option.{get_or_from_slice_get, slice_get_within}
use Rattle.std.proofs.lemmas.List.{get_or-replicate, length-replicate}
use Rattle.history_model.proofs.Lists.{slice_get-set, slice_get-set_other}
use Rattle.reg_levels.proofs.ClusterLemmas.Pushes.{get-push_cases, length-push}
use Rattle.causal_order.specs.SessionClocks.Steps.{AreLatest, ArePrevious, IsLatest, IsLatestOf}
use Rattle.causal_order.proofs.SessionClockLemmas.Ordered.{split_below}

module _ (numbers : List (Option ℕ)) (i : ℕ) (number : Option ℕ) (at : slice_get numbers i ≡ Some number)
  where
    -- the place i has another number
    latest-same : (s : ℕ) (found : Option ℕ) → (number ≡ Some s → ⊥) → IsLatest numbers i s found
        → IsLatest numbers (i + 1) s found
    latest-same s None never h = λ q l g. elim (split_below q i (omega (arith, l))) [
      | inl m ↦ h q m g
      | inr m ↦
          let e : Some number ≡ Some (Some s) = sym at ∙ (sym (ap (slice_get numbers) m) ∙ g) in
          never (cc e)
    ]
    latest-same s (Some d) never h = (
      omega (arith, h.0),
      h.1,
      λ q l g.
          elim (split_below q i (omega (arith, l))) [
            | inl m ↦ h.2 q m g
            | inr m ↦
                let e : Some number ≡ Some (Some s) = sym at ∙ (sym (ap (slice_get numbers) m) ∙ g) in
                absurd (never (cc e))
          ],
    )

    -- the place i has this number
    latest-here : (s : ℕ) → number ≡ Some s → IsLatest numbers (i + 1) s (Some i)
    latest-here s e = (omega arith, at ∙ ap Some e, λ q l g. omega (arith, l))

    pub latest-none : number ≡ None → (latest : List (Option ℕ)) → AreLatest numbers i latest
        → AreLatest numbers (i + 1) latest
    latest-none e latest h s found g =
        latest-same s found (λ f. let bad : None ≡ Some s = sym e ∙ f in cc bad) (h s found g)

    pub latest-some : (s : ℕ) → number ≡ Some s → (latest : List (Option ℕ)) → s < length latest
        → AreLatest numbers i latest → AreLatest numbers (i + 1) (set latest s (Some i))
    latest-some s e latest l h t found g = elim (cases_order t s) [
      | inl same ↦
          let is : Some (Some i) ≡ Some found = sym (slice_get-set latest s (Some i) l)
          ∙ (sym (ap (slice_get (set latest s (Some i))) same) ∙ g) in
          let one : Some i ≡ found = cc is in
          subst (IsLatest numbers (i + 1) t) one (latest-here t (e ∙ ap Some (sym same)))
      | inr o ↦ other (elim o [ inl m ↦ λ k. omega (arith, k, m) | inr m ↦ λ k. omega (arith, k, m) ])
    ]
      where
        other : (t ≡ s → ⊥) → IsLatest numbers (i + 1) t found
        other n =
            latest-same t found (λ f. let same : Some s ≡ Some t = sym e ∙ f in let is : s ≡ t = cc same in
            n (sym is))
            (h t found (sym (slice_get-set_other latest s t (Some i) n) ∙ g))

    pub previous-more : (previous : List (Option ℕ)) (found : Option ℕ) → ArePrevious numbers i previous
        → IsLatestOf numbers i number found → ArePrevious numbers (i + 1) (previous ++ found ∷ [])
    previous-more previous found h is = record {
      places = omega (arith, length-push previous found, h.places);
      each = λ p n other g k. elim (get-push_cases previous found other p k) [
        | inl m ↦ h.each p n other g m
        | inr m ↦
            let place : p ≡ i = m.0 ∙ h.places in
            let same : Some number ≡ Some n = sym at ∙ (sym (ap (slice_get numbers) place) ∙ g) in
            subst (λ o. IsLatestOf numbers p n o) m.1 (subst (λ o. IsLatestOf numbers p o found) (cc same)
            (subst (λ q. IsLatestOf numbers q number found) (sym place) is))
      ];
    }

pub latest-begin : (numbers latest : List (Option ℕ)) (count : ℕ) → latest ≡ replicate count None
    → AreLatest numbers 0 latest
latest-begin numbers latest count e s found g =
    let at = sym (ap (λ xs. slice_get xs s) e) ∙ g in
    let within = slice_get_within (replicate count None) s found at in
    let n = length-replicate {A = Option ℕ} count None in
    let none = get_or-replicate {A = Option ℕ} count s None None (omega (arith, within, n)) in
    let is = get_or_from_slice_get (replicate count None) s found None at in
    subst (IsLatest numbers 0 s) (sym none ∙ is) (λ q l. absurd (omega (arith, l)))

pub previous-begin : (numbers previous : List (Option ℕ)) → previous ≡ [] → ArePrevious numbers 0 previous
previous-begin numbers previous e = record {
  places = ap length e;
  each = λ p n found g k. let bad = sym (ap (λ xs. slice_get xs p) e) ∙ k in absurd (cc bad);
}
