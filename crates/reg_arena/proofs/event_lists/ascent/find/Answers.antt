-- A search goes back until the value is no longer above the one that is sought.
use Rattle.std.proofs.Common.{◌≡◌, ◌≤◌, inl, inr, ◌<ℤ◌, ℕ, sym, subst, arith}
use Rattle.std.proofs.Math.Facts.{to_z-of_z}
use Rattle.std.proofs.lemmas.Int.{ints}
use Rattle.reg_arena.specs.Lists.Pairs.{IsAscending}
use Rattle.reg_arena.proofs.ListLemmas.Searching.{ascending-shown, ascending-value, ascending-within}
use Rattle.reg_arena.proofs.ListLemmas.Searching.{last-jump}
use Rattle.reg_arena.proofs.ListLemmas.Searching.{last-previous, none-above, none-before, step-back}
use Rattle.reg_arena.proofs.event_lists.ascent.find.Goals as goal

pub loop-next-init : goal.loop-next-init
loop-next-init c = record { here = c.requires.top; last = λ n a. c.requires.last n _ a }

pub bounds-pairs-at : goal.bounds-pairs-at
bounds-pairs-at c =
    let here =
    c.loop-next.invariant.here in
    ascending-within c.args.pairs.now c.loop-next.at c.args.register here.0 here.1

pub bounds-pairs-at-2 : goal.bounds-pairs-at-2
bounds-pairs-at-2 c =
    let here =
    c.loop-next.invariant.here in
    ascending-within c.args.pairs.now c.loop-next.at c.args.register here.0 here.1

pub returns-then-next-at-clause-none : goal.returns-then-next-at-clause-none
returns-then-next-at-clause-none c = λ _ n a.
    let here = c.loop-next.invariant.here in
    let last =
    subst (λ z. (n : ℕ) → IsAscending c.args.pairs.now n c.args.register z
    → n ≤ c.loop-next.at) (to_z-of_z c.ranges.value) c.loop-next.invariant.last in
    let above = c.is_above.ensures.above c.loop-next-test.true in
    let same =
    ascending-value c.args.pairs.now c.loop-next.at c.args.register here.0 above.0 _ here.1 above.1 in
    let less : c.args.value <ℤ here.0 =
    (let eq = to_z-of_z c.ranges.value in let greater = above.2 in
    omega (arith, ints, eq, same, greater)) in
    elim (c.back_from-next.ensures here.1.pair here.1.at) [
      | inl e ↦ none-before c.args.pairs.now c.requires.ascent c.loop-next.at c.args.register here.0
          c.args.value here.1 last less (subst (λ m. c.loop-next.at ≤ m) e c.if-next-at.true) n a
      | inr far ↦ absurd (let nearer = far.3 in omega (arith, nearer, c.if-next-at.true))
    ]

pub loop-next-preserved : goal.loop-next-preserved
loop-next-preserved c =
    let pairs = c.args.pairs.now in
    let at = c.loop-next.at in
    let next = c.back_from-next.result in
    let here = c.loop-next.invariant.here in
    let last =
    subst (λ z. (n : ℕ) → IsAscending c.args.pairs.now n c.args.register z
    → n ≤ c.loop-next.at) (to_z-of_z c.ranges.value) c.loop-next.invariant.last in
    let above = c.is_above.ensures.above c.loop-next-test.true in
    let same = ascending-value pairs at c.args.register here.0 above.0 _ here.1 above.1 in
    let less : c.args.value <ℤ here.0 =
    (let eq = to_z-of_z c.ranges.value in let greater = above.2 in
    omega (arith, ints, eq, same, greater)) in
    elim (c.back_from-next.ensures here.1.pair here.1.at) [
      | inl e ↦ record {
        here =
            step-back pairs c.requires.ascent at c.args.register here.0 c.args.value here.1 last next e
            c.if-next-at.false;
        last =
            subst (λ z. (n : ℕ) → IsAscending pairs n c.args.register z
            → n ≤ next) (sym (to_z-of_z c.ranges.value))
            (λ n a. subst (λ m. n ≤ m) (sym e)
            (last-previous pairs c.requires.ascent at c.args.register here.0 c.args.value here.1 last
            less n a));
      }
      | inr far ↦ record {
        here = (far.0, far.1);
        last =
            subst (λ z. (n : ℕ) → IsAscending pairs n c.args.register z
            → n ≤ next) (sym (to_z-of_z c.ranges.value))
            (last-jump pairs c.requires.ascent at c.args.register here.0 c.args.value here.1 last next far.0
            far.1 (let enough = far.2 in let eq = to_z-of_z c.ranges.value in
            omega (arith, ints, eq, enough)));
      }
    ]

pub returns-then-is_below-clause-none : goal.returns-then-is_below-clause-none
returns-then-is_below-clause-none c = λ _.
    let here = c.loop-next.invariant.here in
    let last =
    subst (λ z. (n : ℕ) → IsAscending c.args.pairs.now n c.args.register z
    → n ≤ c.loop-next.at) (to_z-of_z c.ranges.value) c.loop-next.invariant.last in
    let below = c.is_below.ensures.below c.if-is_below.true in
    let same =
    ascending-value c.args.pairs.now c.loop-next.at c.args.register here.0 below.0 _ here.1 below.1 in
    none-above c.args.pairs.now c.requires.ascent c.loop-next.at c.args.register here.0 c.args.value here.1
    last (let eq = to_z-of_z c.ranges.value in let less = below.2 in omega (arith, ints, eq, same, less))

pub returns-else-is_below-clause-some : goal.returns-else-is_below-clause-some
returns-else-is_below-clause-some c =
    let here = c.loop-next.invariant.here in
    let low =
    c.is_below.ensures.other c.if-is_below.false here.0
    (ascending-shown c.args.pairs.now c.loop-next.at c.args.register here.0 _ here.1) in
    let high =
    c.is_above.ensures.other c.loop-next-test.false here.0
    (ascending-shown c.args.pairs.now c.loop-next.at c.args.register here.0 _ here.1) in
    let same : here.0 ≡ c.args.value =
    (let eq = to_z-of_z c.ranges.value in omega (arith, ints, eq, low, high)) in
    subst (λ w. IsAscending c.args.pairs.now c.loop-next.at c.args.register w) same here.1
