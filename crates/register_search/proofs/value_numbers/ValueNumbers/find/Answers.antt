use Rattle.std.proofs.Common.{◌≡◌, Some, None, w64, subst, ap, ◌∙◌, to_z, of_z}
use Rattle.std.proofs.Math.Facts.{to_z-of_z}
use Rattle.std.specs.BTreeMap.{is_at, get}
use Rattle.std.specs.Option.{option_or}
use Rattle.std.specs.Map.{lookup}
use Rattle.std.specs.Ordering.{int_cmp}
use Rattle.register_search.proofs.value_numbers.ValueNumbers.find.Goals as goal

pub returns-in-Some : goal.returns-in-Some
returns-in-Some c =
    let es = c.args.self.now.ascending.items in
    let found : Some c.in-Some.number ≡ lookup (is_at (int_cmp c.args.value)) es =
    subst (λ m. Some c.in-Some.number ≡ lookup (is_at (int_cmp m)) es) (to_z-of_z c.ranges.value)
    (subst (λ xs. Some c.in-Some.number ≡ lookup (is_at (int_cmp (to_z w64 (of_z w64 c.args.value)))) xs)
    c.deref.ensures.value c.in-Some.ensures) in
    ap (λ o. option_or o (get int_cmp c.args.self.now.others c.args.value)) found

pub returns-in-None : goal.returns-in-None
returns-in-None c =
    let es = c.args.self.now.ascending.items in
    let others = c.args.self.now.others in
    let none : None ≡ lookup (is_at (int_cmp c.args.value)) es =
    subst (λ m. None ≡ lookup (is_at (int_cmp m)) es) (to_z-of_z c.ranges.value)
    (subst (λ xs. None ≡ lookup (is_at (int_cmp (to_z w64 (of_z w64 c.args.value)))) xs)
    c.deref.ensures.value c.in-None.ensures) in
    c.copied.ensures
    ∙ (c.get.ensures.value
    ∙ (ap (get int_cmp others) (to_z-of_z c.ranges.value)
    ∙ ap (λ o. option_or o (get int_cmp others c.args.value)) none))
