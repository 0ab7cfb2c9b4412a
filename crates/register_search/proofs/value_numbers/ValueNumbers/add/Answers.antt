use Rattle.std.proofs.Common.{◌≡◌, ℕ, ℤ, w64, subst, ap, ◌∙◌, refl, to_z, of_z, [], ◌∷◌, ◌++◌}
use Rattle.std.proofs.Math.Facts.{to_z-of_z}
use Rattle.std.specs.BTreeMap.{is_at, get}
use Rattle.std.specs.Option.{option_or}
use Rattle.std.specs.List.Sorted.{IsStrictlySortedBy}
use Rattle.std.specs.Map.{keys_of, lookup}
use Rattle.std.specs.Ordering.{int_cmp}
use Rattle.register_search.proofs.Ascending.{pushed-or-not, pushed}
use Rattle.register_search.proofs.value_numbers.ValueNumbers.add.Goals as goal

pub invariant_of-self : goal.invariant_of-self
invariant_of-self c =
    let t = c.args.self.now in
    let one : ℤ × ℕ = (to_z w64 (of_z w64 c.args.value), t.next) in
    let above =
    subst (λ xs. IsStrictlySortedBy int_cmp (keys_of (xs ++ one ∷ []))) c.deref.ensures.value
    (c.if-is_above.ensures refl t.next) in
    let now = c.push.new.self.items in
    record {
      ascends = pushed-or-not _ t.ascending.items now one c.push.ensures.items t.ascends above;
    }

pub returns-then-is_above-clause-all : goal.returns-then-is_above-clause-all
returns-then-is_above-clause-all c =
    let t = c.args.self.now in
    let es = t.ascending.items in
    let more : c.push.new.self.items ≡ es ++ (c.args.value, t.next) ∷ [] =
    subst (λ m. c.push.new.self.items ≡ es ++ (m, t.next) ∷ []) (to_z-of_z c.ranges.value)
    c.in_ok-push.ensures.items in
    λ q. ap (λ xs. option_or (lookup (is_at (int_cmp q)) xs) (get int_cmp t.others q)) more
    ∙ pushed es c.args.value t.next (get int_cmp t.others c.args.value) c.requires q
    (get int_cmp t.others q)
