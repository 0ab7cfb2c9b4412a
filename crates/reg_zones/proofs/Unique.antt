-- An ascending list is determined by its elements.
use Rattle.std.proofs.Common.{◌≡◌, List, [], ◌∷◌, inl, inr, refl, sym, ap, subst, ◌∙◌, arith}
use Rattle.std.proofs.lemmas.Bool.{false≢true}
use Rattle.history_model.specs.Lists.{In, Before}
use Rattle.history_model.specs.declared.operation.Operation.{Operation}
use Rattle.reg_zones.specs.Order.{IsSooner, IsCanonical}

module _ {X : Type 0} (R : X → X → Type 0) (one_way : (a b : X) → R a b → R b a → ⊥) where
  pub ascending_one : (xs ys : List X) → ((a : X) → In a xs → In a ys) → ((a : X) → In a ys → In a xs)
      → ((a b : X) → Before a b xs → R a b) → ((a b : X) → Before a b ys → R a b) → xs ≡ ys
  ascending_one [] [] f g up vp = refl
  ascending_one [] (y ∷ ys) f g up vp = absurd (g y (inl refl))
  ascending_one (x ∷ xs) [] f g up vp = absurd (f x (inl refl))
  ascending_one (x ∷ xs) (y ∷ ys) f g up vp =
      let e : x ≡ y = elim (f x (inl refl)) [
        | inl s ↦ s
        | inr i ↦ elim (g y (inl refl)) [
          | inl s ↦ sym s
          | inr j ↦ absurd (one_way x y (up x y (inl (refl, j))) (vp y x (inl (refl, i))))
        ]
      ] in
      let not_here : (a : X) → In a xs → a ≡ y → ⊥ =
      λ a i s. let r = up x a (inl (refl, i)) in let q = subst (R x) (s ∙ sym e) r in one_way x x q q in
      let not_there : (a : X) → In a ys → a ≡ x → ⊥ =
      λ a i s. let r = vp y a (inl (refl, i)) in let q = subst (R y) (s ∙ e) r in one_way y y q q in
      let rest = ascending_one xs ys
      (λ a i. elim (f a (inr i)) [ inl s ↦ absurd (not_here a i s) | inr j ↦ j ])
      (λ a i. elim (g a (inr i)) [ inl s ↦ absurd (not_there a i s) | inr j ↦ j ])
      (λ a b s. up a b (inr s))
      (λ a b s. vp a b (inr s)) in
      ap (λ z. z ∷ xs) e ∙ ap (λ zs. y ∷ zs) rest

pub sooner_one_way : (ops : List Operation) (a b : Operation) → IsSooner ops a b → IsSooner ops b a → ⊥
sooner_one_way ops a b (inl p) (inl q) = omega arith
sooner_one_way ops a b (inl p) (inr q) = omega (arith, q.0)
sooner_one_way ops a b (inr p) (inl q) = omega (arith, p.0)
sooner_one_way ops a b (inr p) (inr q) = elim p.1 [
  | inl s ↦ elim q.1 [ inl t ↦ false≢true (sym s.1 ∙ t.0) | inr t ↦ false≢true (sym s.1 ∙ (t.0 ∙ s.0)) ]
  | inr s ↦ elim q.1 [ inl t ↦ false≢true (sym t.1 ∙ (s.0 ∙ t.0)) | inr t ↦ omega (arith, s.1, t.1) ]
]

pub one_canonical : (ops xs ys : List Operation) → IsCanonical ops xs → IsCanonical ops ys → xs ≡ ys
one_canonical ops xs ys c d =
    ascending_one (IsSooner ops) (sooner_one_way ops) xs ys (λ a i. d.all a (c.listed a i))
    (λ a i. c.all a (d.listed a i)) c.ascending d.ascending
