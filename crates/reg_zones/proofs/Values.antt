-- The test on values decides their equality.
use Rattle.std.proofs.Common.{◌≡◌, true, Option, Some, None, ◌⊎◌, inl, inr, refl, sym, ap, subst, ◌∙◌}
use Rattle.std.proofs.lemmas.Bool.{cases_Bool, false≢true}
use Rattle.history_text.specs.Values.{same_value}
use Rattle.history_text.specs.declared.event.Val.{Val}
use Rattle.history_model.proofs.Values.{value-true, value-refl}

pub same-true : (a b : Option Val) → same_value a b ≡ true → a ≡ b
same-true None None h = refl
same-true None (Some b) h = absurd (false≢true h)
same-true (Some a) None h = absurd (false≢true h)
same-true (Some a) (Some b) h = ap (λ v. Some v) (value-true a b h)

same-refl : (a : Option Val) → same_value a a ≡ true
same-refl None = refl
same-refl (Some a) = value-refl a

pub eq-same : (a b : Option Val) → a ≡ b → same_value a b ≡ true
eq-same a b e = subst (λ v. same_value a v ≡ true) e (same-refl a)

pub cases_value : (a b : Option Val) → (a ≡ b) ⊎ (a ≡ b → ⊥)
cases_value a b =
    elim (cases_Bool (same_value a b)) [
      | inl t ↦ inl (same-true a b t)
      | inr f ↦ inr (λ e. false≢true (sym f ∙ eq-same a b e))
    ]
