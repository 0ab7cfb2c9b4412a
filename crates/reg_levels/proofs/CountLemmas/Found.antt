-- Lists of what was found, with one operation more.
use Rattle.std.proofs.Common.{◌≡◌, ℕ, zero, suc, ◌+◌, ◌<◌, ◌≤◌, List, [], ◌∷◌, ◌++◌, length}
use Rattle.std.proofs.Common.{slice_get, Option, Some, None}
use Rattle.std.proofs.Common.{◌⊎◌, inl, inr, refl, sym, ap, subst, ◌∙◌, arith}
use Rattle.std.proofs.lemmas.Bool.{cases_lt, cases_order}
use Rattle.history_model.specs.declared.operation.Operation.{Operation}
use Rattle.history_model.proofs.Lists.{slice_get-push, slice_get-append, slice_get_inside}
use Rattle.reg_levels.specs.Clusters.Places.{AreFew, IsAt}
use Rattle.reg_levels.proofs.ClusterLemmas.Pushes.{get-push, get-push_cases, get-below}
use Rattle.reg_levels.specs.Counts.Listing.{AreOldReads, IsListByCall, IsShown, read_of}
use Rattle.reg_levels.specs.Counts.Staleness.{IsOldRead}
use Rattle.reg_levels.specs.Counts.Marks.{AreFound}
use Rattle.reg_levels.specs.declared.counts.old_read.OldRead.{OldRead}

pub split_below : (p i : ℕ) → p < i + 1 → (p < i) ⊎ (p ≡ i)
split_below p i l = elim (cases_order p i) [
  | inl e ↦ inr e
  | inr o ↦ elim o [ inl m ↦ inl m | inr m ↦ absurd (omega arith) ]
]

-- a list whose entries' places ascend, with one more place
pub ascending-push : {X : Type 0} (place : X → ℕ) (i : ℕ) (list : List X) (z : X)
    → ((j : ℕ) (x : X) → slice_get list j ≡ Some x → place x < i) → place z ≡ i
    → ((j k : ℕ) (x y : X) → j < k → slice_get list j ≡ Some x → slice_get list k ≡ Some y
    → place x < place y)
    → (j k : ℕ) (x y : X) → j < k → slice_get (list ++ z ∷ []) j ≡ Some x
    → slice_get (list ++ z ∷ []) k ≡ Some y → place x < place y
ascending-push place i list z below is up j k x y l g h = elim (get-push_cases list z y k h) [
  | inl t ↦
      let under = get-below list y k t in
      up j k x y l (sym (slice_get-append list (z ∷ []) j (omega arith)) ∙ g) t
  | inr t ↦
      let old = sym (slice_get-append list (z ∷ []) j (omega (arith, t.0))) ∙ g in
      let less = below j x old in
      let same = ap place t.1 in omega (arith, less, same, is)
]

module _ (Is : ℕ → Operation → Option OldRead → Type 0) (ops : List Operation) (i : ℕ) (list : List OldRead)
    (h : AreFound Is ops i list) where
  pub found-skip : ((a : Operation) → IsAt ops i a → Is i a None) → AreFound Is ops (i + 1) list
  found-skip is = record {
    ascending = h.ascending;
    each = λ j x g. let r = h.each j x g in (omega (arith, r.0), r.1);
    all = λ p a l t. elim (split_below p i l) [
      | inl m ↦ h.all p a m t
      | inr e ↦ inl (subst (λ k. Is k a None) (sym e) (is a (subst (λ k. IsAt ops k a) e t)))
    ];
  }

  pub found-push : (a : Operation) → IsAt ops i a → (x : OldRead) → x.read ≡ i → Is i a (Some x)
      → AreFound Is ops (i + 1) (list ++ x ∷ [])
  found-push a at x e is = record {
    ascending = ascending-push (λ (z : OldRead). z.read) i list x (λ j z g. (h.each j z g).0) e h.ascending;
    each = λ j z g. elim (get-push_cases list x z j g) [
      | inl t ↦ let r = h.each j z t in (omega (arith, r.0), r.1)
      | inr t ↦
          let same : z.read ≡ i = sym (ap (λ (u : OldRead). u.read) t.1) ∙ e in (
            omega arith,
            (
              a,
              subst (λ k. IsAt ops k a) (sym same) at,
              subst (λ k. Is k a (Some z)) (sym same) (subst (λ u. Is i a (Some u)) t.1 is),
            ),
          )
    ];
    all = λ p b l t. elim (split_below p i l) [
      | inl m ↦ elim (h.all p b m t) [
        | inl none ↦ inl none
        | inr r ↦ inr (r.0, r.1, get-push list x r.1 r.0 r.2, r.3)
      ]
      | inr q ↦ inr (length list, x, slice_get-push list x, e ∙ sym q)
    ];
  }

-- places alone
module _ (Holds : Operation → Type 0) (ops : List Operation) (i : ℕ) (list : List ℕ)
    (h : IsListByCall (λ p. p) (λ _ a. Holds a) Holds ops i list) where
  pub places-skip : ((a : Operation) → IsAt ops i a → Holds a → ⊥)
      → IsListByCall (λ p. p) (λ _ a. Holds a) Holds ops (i + 1) list
  places-skip never = record {
    ascending = h.ascending;
    each = λ j x g. let r = h.each j x g in (omega (arith, r.0), r.1);
    all = λ p a l t k. elim (split_below p i l) [
      | inl m ↦ h.all p a m t k
      | inr e ↦ absurd (never a (subst (λ n. IsAt ops n a) e t) k)
    ];
  }

  pub places-push : (a : Operation) → IsAt ops i a → Holds a
      → IsListByCall (λ p. p) (λ _ a. Holds a) Holds ops (i + 1) (list ++ i ∷ [])
  places-push a at is = record {
    ascending = ascending-push (λ p. p) i list i (λ j z g. (h.each j z g).0) refl h.ascending;
    each = λ j z g. elim (get-push_cases list i z j g) [
      | inl t ↦ let r = h.each j z t in (omega (arith, r.0), r.1)
      | inr t ↦ (omega (arith, t.1), (a, subst (λ k. IsAt ops k a) t.1 at, is))
    ];
    all = λ p b l t k. elim (split_below p i l) [
      | inl m ↦ let r = h.all p b m t k in (r.0, r.1, get-push list i r.1 r.0 r.2, r.3)
      | inr q ↦ (length list, i, slice_get-push list i, sym q)
    ];
  }

-- the list is no longer than the operations
listing-place : {X : Type 0} (place : X → ℕ) (list : List X)
    → ((j k : ℕ) (x z : X) → j < k → slice_get list j ≡ Some x → slice_get list k ≡ Some z
    → place x < place z)
    → (j : ℕ) (x : X) → slice_get list j ≡ Some x → j ≤ place x
listing-place place list up zero x g = omega arith
listing-place place list up (suc j) x g =
    let below = get-below list x (suc j) g in
    let z = slice_get_inside list j (omega arith) in
    let le = listing-place place list up j z.0 z.1 in
    let less = up j (suc j) z.0 x (omega arith) z.1 g in omega arith

pub listing-few : {X : Type 0} (place : X → ℕ) (Shows : X → Operation → Type 0) (Holds : Operation → Type 0)
    (ops : List Operation) (i : ℕ) (list : List X) → IsListByCall place Shows Holds ops i list
    → length list ≤ i
listing-few place Shows Holds ops i list h = elim (cases_lt i (length list)) [
  | inl l ↦
      let x = slice_get_inside list i l in
      let le = listing-place place list h.ascending i x.0 x.1 in
      let less = (h.each i x.0 x.1).0 in absurd (omega arith)
  | inr l ↦ l
]

-- so its length is a number of 32 bits
pub old-few : (Earlier Had : Operation → Operation → Type 0) (First : (e w e' w' : Operation) → Type 0)
    (ops : List Operation) (list shown : List OldRead) → AreFew ops → AreOldReads Earlier Had First ops list
    → shown ≡ list → length shown < 2097152
old-few Earlier Had First ops list shown few h e =
    let le = listing-few read_of (IsShown Earlier Had First ops) (IsOldRead Earlier Had ops) ops (length
    ops) list h in
    let same = ap length e in omega arith
