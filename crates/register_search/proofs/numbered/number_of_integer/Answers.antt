use Rattle.std.proofs.Common.{◌≡◌, ℤ, cond, Some, None, refl, sym, ap, subst, ◌∙◌}
use Rattle.std.proofs.lemmas.Bool.Decides.{Decides-int_eq}
use Rattle.std.proofs.Math.Facts.{to_z-of_z}
use Rattle.std.specs.Ordering.{int_eq}
use Rattle.register_search.specs.ValueNumbers.{number_at}
use Rattle.register_search.proofs.Numbers.{one-more}
use Rattle.register_search.proofs.numbered.number_of_integer.Goals as goal

pub returns-in-Some-clause-number : goal.returns-in-Some-clause-number
returns-in-Some-clause-number c =
    sym (subst (λ n. Some c.in-Some.number ≡ number_at c.args.numbers.now n) (to_z-of_z c.ranges.value)
    c.in-Some.ensures)

pub returns-in_ok-number-in-None-clause-more : goal.returns-in_ok-number-in-None-clause-more
returns-in_ok-number-in-None-clause-more c =
    let old = c.args.numbers.now in
    let new = c.add.new.self in
    let n = c.in_ok-number-in-None.number in
    let e = c.in_ok-number-in-None.ensures in
    let none : None ≡ number_at old c.args.value =
    subst (λ m. None ≡ number_at old m) (to_z-of_z c.ranges.value) c.in-None.ensures in
    let is = subst (λ m. (q : ℤ) → number_at new q ≡ cond (int_eq m q) (Some n) (number_at old q))
    (to_z-of_z c.ranges.value) e.all in
    one-more old new c.args.value n (sym none) e.number e.next is

pub returns-in_ok-number-in-None-clause-number : goal.returns-in_ok-number-in-None-clause-number
returns-in_ok-number-in-None-clause-number c =
    let old = c.args.numbers.now in
    let new = c.add.new.self in
    let v = c.args.value in
    let n = c.in_ok-number-in-None.number in
    let is = subst (λ m. (q : ℤ) → number_at new q ≡ cond (int_eq m q) (Some n) (number_at old q))
    (to_z-of_z c.ranges.value) c.in_ok-number-in-None.ensures.all in
    is v ∙ ap (λ b. cond b (Some n) (number_at old v)) ((Decides-int_eq v v).1 refl)
