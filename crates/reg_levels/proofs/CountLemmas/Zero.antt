-- A count is zero exactly if nothing is counted.
use Rattle.std.proofs.Common.{◌≡◌, ℕ, ◌↔◌, List, length, Option}
use Rattle.std.proofs.Common.{inl, inr, sym, ◌∙◌, arith}
use Rattle.std.proofs.lemmas.Bool.{cases_lt}
use Rattle.history_model.specs.Lists.{In}
use Rattle.history_model.specs.declared.operation.Operation.{Operation}
use Rattle.history_model.proofs.Lists.{slice_get_inside}
use Rattle.reg_levels.proofs.ClusterLemmas.Places.{at-below, In-at}
use Rattle.reg_levels.proofs.ClusterLemmas.Pushes.{get-below}
use Rattle.reg_levels.specs.Counts.Listing.{AreLostWrites, AreOldReads, IsListByCall, IsShown, read_of}
use Rattle.reg_levels.specs.Counts.Measured.{AreCountedBy}
use Rattle.reg_levels.specs.Counts.Staleness.{IsLost, IsOldRead}
use Rattle.reg_levels.specs.declared.counts.old_read.OldRead.{OldRead}

module _ {X : Type 0} (place : X → ℕ) (Shows : X → Operation → Type 0) (Holds : Operation → Type 0)
    (ops : List Operation) (show : (x : X) (a : Operation) → Shows x a → Holds a)
    (within : (a : Operation) → Holds a → In a ops) (list : List X)
    (h : IsListByCall place Shows Holds ops (length ops) list) where
  list-empty : length list ≡ 0 → (a : Operation) → Holds a → ⊥
  list-empty e a k =
      let p = In-at ops a (within a k) in
      let r = h.all p.0 a (at-below ops p.0 a p.1) p.1 k in
      let below = get-below list r.1 r.0 r.2 in omega arith

  empty-list : ((a : Operation) → Holds a → ⊥) → length list ≡ 0
  empty-list none = elim (cases_lt 0 (length list)) [
    | inl l ↦
        let x = slice_get_inside list 0 l in
        let r = (h.each 0 x.0 x.1).1 in absurd (none r.0 (show x.0 r.0 r.2))
    | inr l ↦ omega arith
  ]

pub old-zero : (Earlier Had : Operation → Operation → Type 0) (First : (e w e' w' : Operation) → Type 0)
    (ops : List Operation) (n : ℕ) (first : Option OldRead)
    → AreCountedBy (AreOldReads Earlier Had First ops) n first
    → (n ≡ 0) ↔ ((r : Operation) → IsOldRead Earlier Had ops r → ⊥)
old-zero Earlier Had First ops n first c = (
  λ z. list-empty read_of (IsShown Earlier Had First ops) (IsOldRead Earlier Had ops) ops show within c.0 c.1
      (sym c.2 ∙ z),
  λ none. c.2
      ∙ empty-list read_of (IsShown Earlier Had First ops) (IsOldRead Earlier Had ops) ops show within c.0
      c.1 none,
)
  where
    show : (x : OldRead) (r : Operation) → IsShown Earlier Had First ops x r → IsOldRead Earlier Had ops r
    show x r s = (s.earlier, s.newer, s.old)

    within : (r : Operation) → IsOldRead Earlier Had ops r → In r ops
    within r o = o.2.within

pub lost-zero : (ops : List Operation) (n : ℕ) (first : Option ℕ) → AreCountedBy (AreLostWrites ops) n first
    → (n ≡ 0) ↔ ((w : Operation) → IsLost ops w → ⊥)
lost-zero ops n first c = (
  λ z. list-empty (λ p. p) (λ _ w. IsLost ops w) (IsLost ops) ops (λ _ _ s. s) (λ w l. l.within) c.0 c.1
      (sym c.2
      ∙ z),
  λ none. c.2
      ∙ empty-list (λ p. p) (λ _ w. IsLost ops w) (IsLost ops) ops (λ _ _ s. s) (λ w l. l.within) c.0 c.1
      none,
)
