use Rattle.std.proofs.Common.{subst, refl, [], ◌∷◌, ◌++◌}
use Rattle.std.proofs.Math.Facts.{to_z-of_z}
use Rattle.std.specs.List.Sorted.{IsStrictlySortedBy}
use Rattle.std.specs.Map.{keys_of}
use Rattle.std.specs.Ordering.{int_cmp}
use Rattle.register_search.proofs.Ascending.{above-lost}
use Rattle.register_search.proofs.value_numbers.found_in.Goals as goal

pub returns-then-is_above : goal.returns-then-is_above
returns-then-is_above c =
    let es = c.args.ascending.now in
    above-lost es c.args.value c.requires
    (subst (λ m. IsStrictlySortedBy int_cmp (keys_of (es ++ (m, 0) ∷ []))) (to_z-of_z c.ranges.value)
    (c.if-is_above.ensures refl 0))
