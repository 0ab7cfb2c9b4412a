-- Each way to the number of a pair leads to its place.
use Rattle.std.proofs.Common.{rules, ◌≡◌, ◌≤◌, ◌<ℤ◌, ℕ, ℤ, Some, None, List, Option, position}
use Rattle.std.proofs.Common.{map, sym, ap, subst, ◌∙◌, arith, FitsSigned, to_z, of_z, w64}
use Rattle.std.proofs.Math.Facts.{to_z-of_z}
use Rattle.std.proofs.lemmas.Int.{ints}
use Rattle.reg_arena.specs.Lists.Tables.{item_at}
use Rattle.reg_arena.specs.Lists.Pairs.{key_eq, IsAscending, in_table, key_of}
use Rattle.reg_arena.specs.declared.event_lists.ascent.Pair.{Pair}
use Rattle.reg_arena.proofs.ListLemmas.Entering.{last-top}
use Rattle.reg_arena.proofs.ListLemmas.Pairing.{number-above, number-ascending, number-by_table}
use Rattle.reg_arena.proofs.ListLemmas.Pairing.{number-no_top}
use Rattle.reg_arena.proofs.ListLemmas.Searching.{ascending-value, ascending-within}
use Rattle.reg_arena.proofs.event_lists.pairs.Pairs.number.Goals.{in_default}
use Rattle.reg_arena.proofs.event_lists.pairs.Pairs.number.Goals as goal

pub returns-in_err-top : goal.returns-in_err-top
returns-in_err-top c =
    let fields = c.self.inside in
    let top =
    ap (λ (ts : List (Option ℕ)). item_at ts c.args.register) (sym c.deref.ensures.value)
    ∙ (sym c.top_of.ensures ∙ c.in_err-top.was) in
    subst (λ keys. c.from_residual.result ≡ position (key_eq (c.args.register, c.args.value)) keys)
    c.self.view_is
    (subst (λ w. c.from_residual.result ≡ position (key_eq (c.args.register, w))
    (map key_of fields.pairs.items)) (sym c.in-Some.is)
    (c.from_residual.ensures
    ∙ number-no_top fields.pairs.items (item_at fields.tops.items)
    (in_table fields.table) c.self.invariant c.args.register c.in-Some.whole top))

pub index-requires : goal.index-requires
index-requires c =
    let top =
    ap (λ (ts : List (Option ℕ)). item_at ts c.args.register) (sym c.deref.ensures.value)
    ∙ (sym c.top_of.ensures ∙ c.in_ok-top.was) in
    let there = c.self.invariant.tops c.args.register c.in_ok-top.top top in
    let within = ascending-within c.self.inside.pairs.items c.in_ok-top.top c.args.register there.0 there.1 in
    omega (arith, within)

pub returns-then-is_below : goal.returns-then-is_below
returns-then-is_below c =
    let fields = c.self.inside in
    let top =
    ap (λ (ts : List (Option ℕ)). item_at ts c.args.register) (sym c.deref.ensures.value)
    ∙ (sym c.top_of.ensures ∙ c.in_ok-top.was) in
    let there = c.self.invariant.tops c.args.register c.in_ok-top.top top in
    let below = c.is_below.ensures.below c.if-is_below.true in
    let same =
    ascending-value fields.pairs.items c.in_ok-top.top c.args.register there.0 below.0 c.index.result.now
    there.1 (ap (λ (p : Pair). p.value) (sym c.index.ensures) ∙ below.1) in
    let fits : FitsSigned w64 c.in-Some.whole = search rules in
    let less : there.0 <ℤ c.in-Some.whole =
    (let eq = to_z-of_z fits in let l = below.2 in omega (arith, ints, eq, same, l)) in
    subst (λ keys. None ≡ position (key_eq (c.args.register, c.args.value)) keys) c.self.view_is
    (subst (λ w. None ≡ position (key_eq (c.args.register, w)) (map key_of fields.pairs.items))
    (sym c.in-Some.is)
    (number-above fields.pairs.items (item_at fields.tops.items) (in_table fields.table) c.self.invariant
    c.args.register c.in_ok-top.top c.in-Some.whole there.0 top there.1 less))

pub find-requires-clause-last : goal.find-requires-clause-last
find-requires-clause-last c =
    let fields = c.self.inside in
    let top =
    ap (λ (ts : List (Option ℕ)). item_at ts c.args.register) (sym c.deref.ensures.value)
    ∙ (sym c.top_of.ensures ∙ c.in_ok-top.was) in
    subst (λ (pairs : List Pair). (n : ℕ) (v : ℤ) → IsAscending pairs n c.args.register v
    → n ≤ c.in_ok-top.top) (sym c.deref-in-Some.ensures.value)
    (λ n v a. last-top fields.pairs.items (item_at fields.tops.items) (in_table fields.table) c.self.invariant
    n c.args.register c.in_ok-top.top v a top)

pub returns-in-Some-find : goal.returns-in-Some-find
returns-in-Some-find c =
    let fields = c.self.inside in
    let fits : FitsSigned w64 c.in-Some.whole = search rules in
    let there =
    subst (λ (pairs : List Pair). IsAscending pairs c.in-Some-find.number c.args.register c.in-Some.whole)
    c.deref-in-Some.ensures.value
    (subst (λ v. IsAscending c.deref-in-Some.result.now c.in-Some-find.number c.args.register v)
    (to_z-of_z fits) c.in-Some-find.ensures.some) in
    subst (λ keys. Some c.in-Some-find.number ≡ position (key_eq (c.args.register, c.args.value)) keys)
    c.self.view_is
    (subst (λ w. Some c.in-Some-find.number ≡ position (key_eq (c.args.register, w))
    (map key_of fields.pairs.items)) (sym c.in-Some.is)
    (number-ascending fields.pairs.items (item_at fields.tops.items) (in_table fields.table) c.self.invariant
    c.in-Some-find.number c.args.register c.in-Some.whole there))

pub returns : goal.returns
returns c =
    let fields = c.self.inside in
    let by_table : c.match-value.value ≡ c.args.value
    → ((v : ℤ) → c.args.value ≡ Some v → (n : ℕ) → IsAscending fields.pairs.items n c.args.register v → ⊥)
    → c.number_in.result ≡ position (key_eq (c.args.register, c.args.value)) c.args.self.now =
    λ same none. subst (λ keys. c.number_in.result ≡ position (key_eq (c.args.register, c.args.value)) keys)
    c.self.view_is
    (number-by_table fields.pairs.items (item_at fields.tops.items) (in_table fields.table) c.self.invariant
    (c.args.register, c.args.value) c.number_in.result
    (c.number_in.ensures ∙ ap (λ v. in_table fields.table (c.args.register, v)) same) none) in
    elim c.match-value.branch [
      | goal.in-Some+in_ok-top+else-is_below+in_default-find w ↦
          by_table (w.value-is ∙ sym w.in-Some.is) (λ v e n a.
          let fits : FitsSigned w64 w.in-Some.whole = search rules in
          let is = w.in-Some.is in
          let same : v ≡ w.in-Some.whole = cc (e, is) in
          w.find.ensures.none w.in_default-find.is n
          (subst (λ (pairs : List Pair).
          IsAscending pairs n c.args.register (to_z w64 (of_z w64 w.in-Some.whole)))
          (sym w.deref-in-Some.ensures.value)
          (subst (λ v. IsAscending fields.pairs.items n c.args.register v) (same ∙ sym (to_z-of_z fits)) a)))
      | in_default w ↦ by_table w.value-is (λ v e. absurd (w.in_default.not-Some v e))
    ]
