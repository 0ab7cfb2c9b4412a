use Rattle.std.proofs.Common.{◌≡◌, ◌<◌, ◌+◌, length, slice_get, Some, refl, sym, ap, ◌∙◌}
use Rattle.std.proofs.Common.{subst, arith}
use Rattle.reg_levels.proofs.ClusterLemmas.Pushes.{get-read}
use Rattle.reg_levels.specs.Gap.Conflicts.{AreExtentsBelow}
use Rattle.reg_levels.proofs.GapLemmas.Listing.{extents-push, number-few}
use Rattle.reg_levels.proofs.gap.extents.numbered.Goals as goal

pub overflow_cast-number : goal.overflow_cast-number
overflow_cast-number c =
    let h = number-few c.args.ops.now c.args.table.now.clusters.items c.args.table.now.numbers.items
    c.requires.table c.loop-number.number c.requires.few (omega arith) in omega (arith, h)

pub loop-number-preserved : goal.loop-number-preserved
loop-number-preserved c =
    let ops = c.args.ops.now in
    let clusters = c.args.table.now.clusters.items in
    let n = c.loop-number.number in
    let ends = c.index-ends.result.now in
    let below : n < length clusters = omega arith in
    let at : slice_get clusters n ≡ Some ends =
    get-read clusters n ends below ∙ ap Some (sym c.index-ends.ensures) in
    subst (AreExtentsBelow ops clusters (n + 1)) (sym c.in_ok-push.ensures.items)
    (extents-push ops clusters c.args.table.now.numbers.items c.requires.table n c.loop-number.extents.items _
    ends c.loop-number.invariant at refl refl refl refl)
