use Rattle.std.proofs.Common.{rules, ◌≡◌, Some, FitsSigned, w64, sym, ap, ◌∙◌, slice_get, length, refl, to_z}
use Rattle.std.proofs.Math.Facts.{to_z-of_z}
use Rattle.std.proofs.lemmas.Option.{slice_get_read}
use Rattle.register_search.proofs.Ascending.{at-place}
use Rattle.register_search.proofs.value_numbers.found_at.Goals as goal

pub returns-then-one-value : goal.returns-then-one-value
returns-then-one-value c =
    let one = c.in-Some.one.now in
    let h = c.in-Some.ensures.lookup in
    let there : slice_get c.args.ascending.now c.args.place ≡ Some one =
    slice_get_read c.args.ascending.now (length c.args.ascending.now) _ one refl (search rules) h.1 in
    let fits : FitsSigned w64 one.0 = search rules in
    let same : one.0 ≡ c.args.value =
    sym (to_z-of_z fits) ∙ (ap (to_z w64) c.if-one-value.true ∙ to_z-of_z c.ranges.value) in
    at-place c.args.ascending.now c.args.place one c.args.value c.requires there same
