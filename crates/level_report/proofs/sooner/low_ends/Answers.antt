use Rattle.std.proofs.Common.{◌≡◌, ◌<◌, ◌+◌, ◌∙◌, ap, arith, length, refl, slice_get, Some, subst, sym}
use Rattle.reg_levels.proofs.ClusterLemmas.Pushes.{get-read}
use Rattle.reg_levels.proofs.GapLemmas.Listing.{number-few}
use Rattle.level_report.specs.Ordered.{AreFirstLowEnds}
use Rattle.level_report.proofs.ByLowEnds.{low-push}
use Rattle.level_report.proofs.sooner.low_ends.Goals as goal

pub overflow_cast-number : goal.overflow_cast-number
overflow_cast-number c =
    let h = number-few c.args.ops.now c.args.table.now.clusters.items c.args.table.now.numbers.items
    c.requires.table c.loop-number.number c.requires.few (omega arith) in omega (arith, h)

pub loop-number-preserved : goal.loop-number-preserved
loop-number-preserved c =
    let clusters = c.args.table.now.clusters.items in
    let n = c.loop-number.number in
    let ends = c.index-cluster.result.now in
    let below : n < length clusters = omega arith in
    let at : slice_get clusters n ≡ Some ends =
    get-read clusters n ends below ∙ ap Some (sym c.index-cluster.ensures) in
    subst (AreFirstLowEnds clusters (n + 1)) (sym c.in_ok-push.ensures.items)
    (low-push clusters n c.loop-number.ends.items (record { low = c.min.result; cluster = n }) ends
    c.loop-number.invariant at refl c.min.ensures)
