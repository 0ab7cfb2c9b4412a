use Rattle.std.proofs.Common.{refl, arith}
use Rattle.std.proofs.lemmas.Option.{slice_get-get_or, slice_get_within}
use Rattle.reg_levels.proofs.Chaining.{entries_more}
use Rattle.reg_levels.proofs.graph.LevelGraph.add_entries.Goals as goal

pub loop-number-preserved : goal.loop-number-preserved
loop-number-preserved c =
    entries_more c.args.clusters.now c.args.calls.now c.loop-number.number c.first_after-place.result _ _
    c.args.self.now
    c.loop-number.self c.join_if.new.self _ refl c.requires.count
    (slice_get-get_or c.args.clusters.now c.loop-number.number _ c.loop-number-test.true)
    c.first_after-place.ensures.before c.first_after-place.ensures.after c.in_ok-join_if.ensures
    c.loop-number.invariant

pub returns-clause-reaches : goal.returns-clause-reaches
returns-clause-reaches c = λ x y n d a b late.
    c.loop-number.invariant.reaches x y n d
    (omega (arith, c.loop-number-test.false, slice_get_within c.args.clusters.now x d a)) a b late
