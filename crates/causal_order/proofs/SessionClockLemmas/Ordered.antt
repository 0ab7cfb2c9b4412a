-- Places of operations that stand by their calls.
use Rattle.std.proofs.Common.{◌≡◌, ℕ, zero, suc, ◌<◌, List, [], ◌∷◌, slice_get, Some}
use Rattle.std.proofs.Common.{◌⊎◌, inl, inr, sym, ap, ◌∙◌, arith}
use Rattle.std.proofs.lemmas.Bool.{cases_order}
use Rattle.history_model.specs.Lists.{Before}
use Rattle.history_model.specs.declared.operation.Operation.{Operation}
use Rattle.history_model.proofs.Lists.{slice_get-In}
use Rattle.causal_order.specs.SessionClocks.Sessions.{IsAt, IsCalledInOrder}

get-Before : {X : Type 0} (xs : List X) (i j : ℕ) (x y : X) → i < j → slice_get xs i ≡ Some x
    → slice_get xs j ≡ Some y → Before x y xs
get-Before [] i j x y l h k = absurd (cc h)
get-Before (z ∷ zs) zero zero x y l h k = absurd (omega arith)
get-Before (z ∷ zs) zero (suc j) x y l h k = inl (cc h, slice_get-In zs j y k)
get-Before (z ∷ zs) (suc i) zero x y l h k = absurd (omega arith)
get-Before (z ∷ zs) (suc i) (suc j) x y l h k = inr (get-Before zs i j x y (omega arith) h k)

-- two operations at one place are one
pub at-one : (ops : List Operation) (p : ℕ) (a b : Operation) → IsAt ops p a → IsAt ops p b → a ≡ b
at-one ops p a b h k = let e : Some a ≡ Some b = sym h ∙ k in cc e

-- what is below a place and one more is below it or there
pub split_below : (q p : ℕ) → q < suc p → (q < p) ⊎ (q ≡ p)
split_below q p l = elim (cases_order q p) [
  | inl e ↦ inr e
  | inr o ↦ elim o [ inl m ↦ inl m | inr m ↦ absurd (omega arith) ]
]

module _ (ops : List Operation) (y : IsCalledInOrder ops) where
  -- one operation stands at one place
  pub at-once : (i j : ℕ) (a : Operation) → IsAt ops i a → IsAt ops j a → i ≡ j
  at-once i j a h k = elim (cases_order i j) [
    | inl e ↦ e
    | inr o ↦ elim o [
      | inl m ↦ absurd (y.once a (get-Before ops i j a a m h k))
      | inr m ↦ absurd (y.once a (get-Before ops j i a a m k h))
    ]
  ]

  pub calls_ascend : (i j x : ℕ) (a b : Operation) → i < j → IsAt ops i a → IsAt ops j b → b.process ≡ Some x
      → a.call < b.call
  calls_ascend i j x a b l h k e = y.called a b x (get-Before ops i j a b l h k) e

  pub places_ascend : (i j x : ℕ) (a b : Operation) → IsAt ops i a → IsAt ops j b → a.process ≡ Some x
      → a.call < b.call → i < j
  places_ascend i j x a b h k e l = elim (cases_order i j) [
    | inl s ↦
        let same = at-one ops j a b (sym (ap (slice_get ops) s) ∙ h) k in
        let c = ap (λ (o : Operation). o.call) same in absurd (omega (arith, c, l))
    | inr o ↦ elim o [
      | inl m ↦ m
      | inr m ↦ let c = calls_ascend j i x b a m k h e in absurd (omega (arith, c, l))
    ]
  ]
