use Rattle.std.proofs.Common.{◌≡◌, ℕ, ℤ, cond, Bool, true, false, Option, Some, None, is_some}
use Rattle.std.proofs.Common.{refl, sym, ap, subst, ◌∙◌}
use Rattle.std.proofs.Math.Facts.{to_z-of_z}
use Rattle.std.proofs.lemmas.Bool.Decides.{Decides-int_eq}
use Rattle.std.specs.Ordering.{int_eq}
use Rattle.register_search.specs.declared.value_numbers.ValueNumbers.{ValueNumbers}
use Rattle.register_search.specs.ValueNumbers.{has_number, number_at}
use Rattle.register_search.proofs.value_numbers.ValueNumbers.insert.Goals as goal

-- to add what is there changes nothing
there : (t : ValueNumbers) (v : ℤ) (n : ℕ) → Some n ≡ number_at t v → (q : ℤ)
    → has_number t q ≡ cond (int_eq v q) true (has_number t q)
there t v n is q = go (int_eq v q) refl
  where
    go : (b : Bool) → int_eq v q ≡ b → has_number t q ≡ cond b true (has_number t q)
    go true e = ap (has_number t) (sym ((Decides-int_eq v q).0 e)) ∙ ap is_some (sym is)
    go false e = refl

some-cond : (b : Bool) (n : ℕ) (o : Option ℕ) → is_some (cond b (Some n) o) ≡ cond b true (is_some o)
some-cond true n o = refl
some-cond false n o = refl

pub returns-in-Some-clause-all : goal.returns-in-Some-clause-all
returns-in-Some-clause-all c =
    let n = c.in-Some.field-0 in
    there c.args.self.now c.args.value n
    (subst (λ m. Some n ≡ number_at c.args.self.now m) (to_z-of_z c.ranges.value) c.in-Some.ensures)

pub returns-in_ok-add-in-None-clause-new : goal.returns-in_ok-add-in-None-clause-new
returns-in_ok-add-in-None-clause-new c =
    λ _. sym (ap is_some
    (subst (λ m. None ≡ number_at c.args.self.now m) (to_z-of_z c.ranges.value) c.in-None.ensures))

pub returns-in_ok-add-in-None-clause-all : goal.returns-in_ok-add-in-None-clause-all
returns-in_ok-add-in-None-clause-all c =
    let old = c.args.self.now in
    let n = c.in_ok-add-in-None.field-0 in
    let is = subst (λ m. (q : ℤ) → number_at c.add.new.self q ≡ cond (int_eq m q) (Some n) (number_at old q))
    (to_z-of_z c.ranges.value) c.in_ok-add-in-None.ensures.all in
    λ q. ap is_some (is q) ∙ some-cond (int_eq c.args.value q) n (number_at old q)
