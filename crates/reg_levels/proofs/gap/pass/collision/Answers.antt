use Rattle.std.proofs.Common.{◌≡◌, ◌<◌, ◌≤◌, get_or, length, subst, arith}
use Rattle.reg_levels.specs.Gap.Extents.{NoneCollideBelow, threshold}
use Rattle.reg_levels.proofs.GapLemmas.Passing.{apart-all, apart-more, collided, no_extent, passed-later}
use Rattle.reg_levels.proofs.gap.pass.collision.Goals as goal
use Rattle.reg_levels.proofs.gap.pass.collision.Goals.{else-first-place-via-else-first-place}

pub returns-then-extents-first : goal.returns-then-extents-first
returns-then-extents-first c =
    let xs = c.args.extents.now in
    let first = c.first_left-first.result in
    let place = c.loop-place.place in
    let below : place < length xs = omega arith in
    let less : (get_or xs first no_extent).first_reply < threshold c.args.age (get_or xs place no_extent) =
    subst (λ n. (get_or xs first no_extent).first_reply < n) c.threshold.ensures c.if-extents-first.true in
    collided c.args.age xs c.requires first place c.if-first-place.true below
    c.first_left-first.ensures.left less

pub loop-place-preserved : goal.loop-place-preserved
loop-place-preserved c =
    let xs = c.args.extents.now in
    let first = c.first_left-first.result in
    let place = c.loop-place.place in
    let below : place < length xs = omega arith in
    let order = c.first_left-first.ensures.order in
    let passed = c.first_left-first.ensures.passed in
    let free : first < place
    → threshold c.args.age (get_or xs place no_extent) ≤ (get_or xs first no_extent).first_reply =
    λ l. elim c.else-first-place.branch [
      | goal.else-first-place-via-then-first-place+else-extents-first w ↦
          subst (λ n. n ≤ (get_or xs first no_extent).first_reply) w.threshold.ensures
          w.if-extents-first.false
      | else-first-place-via-else-first-place w ↦ absurd (omega (arith, l, w.if-first-place.false))
    ] in
    record {
      order = omega (arith, order);
      passed = passed-later c.args.age xs c.requires first place passed;
      apart =
          apart-more c.args.age xs c.requires first place order below passed c.loop-place.invariant.apart
          free;
    }

pub returns : goal.returns
returns c =
    let xs = c.args.extents.now in
    let e : c.loop-place.place ≡ length xs = omega arith in
    apart-all c.args.age xs c.requires (subst (NoneCollideBelow c.args.age xs) e c.loop-place.invariant.apart)
