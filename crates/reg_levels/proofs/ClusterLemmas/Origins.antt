-- The write of an operation's value, and the first read that has none.
use Rattle.std.proofs.Common.{◌≡◌, ℕ, ◌+◌, ◌<◌, List, [], ◌∷◌, ◌++◌, length, slice_get}
use Rattle.std.proofs.Common.{Option, Some, None, true, false, is_some}
use Rattle.std.proofs.Common.{inl, inr, sym, ap, subst, ◌∙◌, arith}
use Rattle.std.proofs.lemmas.Bool.{cases_order, false≢true}
use Rattle.history_text.specs.declared.event.Val.{Val}
use Rattle.history_model.specs.Operations.{IsHistory, is_write, value_of}
use Rattle.history_model.specs.declared.operation.Operation.{Operation}
use Rattle.history_model.proofs.Lists.{slice_get_inside}
use Rattle.history_model.proofs.Plain.{read-asks}
use Rattle.reg_zones.specs.Faults.{IsUnwritten, IsFirstUnwritten}
use Rattle.reg_levels.specs.Clusters.Places.{IsAt, IsByCall}
use Rattle.reg_levels.specs.Clusters.Steps.{AreSources, IsSource, IsWriteAt}
use Rattle.reg_levels.proofs.ClusterLemmas.Places.{at-In, at-below, In-at, calls_ascend}
use Rattle.reg_levels.proofs.ClusterLemmas.Pushes.{length-push, get-push_cases}
use Rattle.reg_levels.proofs.ClusterLemmas.Written.{write-gives, giver-writes}

module _ (ops : List Operation) (y : IsHistory ops) (p : ℕ) (a : Operation) (at : IsAt ops p a) where
  -- a read without a value is pending
  pub no-source : is_write a ≡ false → value_of a ≡ None → IsSource ops a None
  no-source r e =
      let i = at-In ops p a at in
      (r, sym (y.reads a i r) ∙ (read-asks a.act (y.plain a i) r ∙ ap is_some e))

  completed-from : (v : Val) → is_write a ≡ false → value_of a ≡ Some v → a.completed ≡ true
  completed-from v r e =
      let i = at-In ops p a at in
      sym (y.reads a i r) ∙ (read-asks a.act (y.plain a i) r ∙ ap is_some e)

  pub read-source : (v : Val) (q : ℕ) → is_write a ≡ false → value_of a ≡ Some v → IsWriteAt ops v q
      → IsSource ops a (Some q)
  read-source v q r e h =
      let w = giver-writes h.0.act v h.2 in (
        h.0,
        h.1,
        w,
        e ∙ (sym h.2 ∙ write-gives h.0.act (y.plain h.0 (at-In ops q h.0 h.1)) w),
        inr
            (completed-from v r e),
      )

  pub unwritten-from : (v : Val) → is_write a ≡ false → value_of a ≡ Some v
      → ((q : ℕ) → q < length ops → IsWriteAt ops v q → ⊥) → IsUnwritten ops a
  unwritten-from v r e none = record {
    within = at-In ops p a at;
    read = record { read = r; completed = completed-from v r e };
    unwritten = λ w i k o.
        let q = In-at ops w i in
        none q.0 (at-below ops q.0 w q.1) (w, q.1, write-gives w.act (y.plain w i) k ∙ (sym o.value ∙ e));
  }

  -- what has a source isn't unwritten
  pub source-written : (s : Option ℕ) → IsSource ops a s → IsUnwritten ops a → ⊥
  source-written None h u = false≢true (sym h.1 ∙ u.read.completed)
  source-written (Some q) h u =
      u.unwritten h.0 (at-In ops q h.0 h.1) h.2
      (record { read = u.read.read; completed = u.read.completed; value = h.3 })

pub sources_push : (ops : List Operation) (i : ℕ) (sources : List (Option ℕ)) (s : Option ℕ)
    → ((a : Operation) → IsAt ops i a → IsSource ops a s) → AreSources ops i sources
    → AreSources ops (i + 1) (sources ++ s ∷ [])
sources_push ops i sources s is h = record {
  places = omega (arith, h.places, length-push sources s);
  each = λ p a t at g. elim (get-push_cases sources s t p g) [
    | inl o ↦ h.each p a t at o
    | inr o ↦ subst (IsSource ops a) o.1 (is a (subst (λ k. IsAt ops k a) (o.0 ∙ h.places) at))
  ];
}

-- of the operations below i none is unwritten, and the one at i is: it is the first
pub first-unwritten : (ops : List Operation) → IsHistory ops → IsByCall ops → (i : ℕ) (a : Operation)
    (sources : List (Option ℕ)) → AreSources ops i sources → IsAt ops i a → IsUnwritten ops a
    → IsFirstUnwritten ops a
first-unwritten ops y b i a sources h at u = record {
  fault = u;
  first = λ q v.
      let p = In-at ops q v.within in
      elim (cases_order p.0 i) [
        | inl e ↦
            let same : Some q ≡ Some a = sym p.1 ∙ (ap (slice_get ops) e ∙ at) in
            let is : q ≡ a = cc same in
            let c = ap (λ (x : Operation). x.call) is in omega arith
        | inr o ↦ elim o [
          | inl l ↦
              let s = slice_get_inside sources p.0 (omega (arith, h.places)) in
              absurd (source-written ops y p.0 q p.1 s.0 (h.each p.0 q s.0 p.1 s.1) v)
          | inr l ↦ let c = calls_ascend ops b i p.0 a q l at p.1 in omega arith
        ]
      ];
}
