use Rattle.std.proofs.Common.{rules, int_lt, IsTrue, FitsSigned, w64, subst, to_z, of_z}
use Rattle.std.proofs.Math.Facts.{to_z-of_z}
use Rattle.register_search.proofs.Ascending.{less-than, above-nothing, above-last}
use Rattle.register_search.proofs.value_numbers.is_above.Goals as goal

pub returns-in-Some : goal.returns-in-Some
returns-in-Some c =
    let last = c.in-Some.last.now in
    let fits : FitsSigned w64 last.0 = search rules in
    λ t n. above-last c.args.ascending.now last c.args.value n c.requires c.in-Some.ensures.value
    (less-than last.0 c.args.value
    (subst (λ m. IsTrue (int_lt m c.args.value)) (to_z-of_z fits)
    (subst (λ m. IsTrue (int_lt (to_z w64 (of_z w64 last.0)) m)) (to_z-of_z c.ranges.value) t)))

pub returns-in-None : goal.returns-in-None
returns-in-None c = λ _ n. above-nothing c.args.value n c.args.ascending.now c.in-None.ensures.value
