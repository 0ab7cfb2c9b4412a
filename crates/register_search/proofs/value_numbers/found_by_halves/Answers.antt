use Rattle.std.proofs.Common.{rules, ℕ, ℤ, subst, Ok, Err}
use Rattle.std.proofs.Math.Facts.{to_z-of_z}
use Rattle.std.proofs.lemmas.List.Sorted.{answers_always}
use Rattle.std.specs.List.Sorted.{IsBinarySearchResult}
use Rattle.std.specs.Ordering.{int_cmp}
use Rattle.register_search.proofs.Ascending.{halved}
use Rattle.register_search.proofs.value_numbers.found_by_halves.Goals as goal

pub returns-in-Ok : goal.returns-in-Ok
returns-in-Ok c =
    halved c.args.ascending.now c.args.value _ (Ok c.in-Ok.place) c.requires c.in-Ok.ensures.bound
    (subst (λ m. IsBinarySearchResult (λ (p : ℤ × ℕ). int_cmp p.0 m) c.args.ascending.now (Ok c.in-Ok.place))
    (to_z-of_z c.ranges.value)
    (c.in-Ok.ensures.position (λ (p : ℤ × ℕ). p.0) (answers_always _ _ _ (λ f a r g called. search rules))))

pub returns-in-Err : goal.returns-in-Err
returns-in-Err c =
    let es = c.args.ascending.now in
    halved es c.args.value (c.args.value, 0) (Err c.in-Err.field-0) c.requires c.in-Err.ensures.bound
    (subst (λ m. IsBinarySearchResult (λ (p : ℤ × ℕ). int_cmp p.0 m) es (Err c.in-Err.field-0))
    (to_z-of_z c.ranges.value)
    (c.in-Err.ensures.position (λ (p : ℤ × ℕ). p.0) (answers_always _ _ _ (λ f a r g called. search rules))))
