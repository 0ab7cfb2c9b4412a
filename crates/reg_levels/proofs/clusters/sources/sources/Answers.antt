use Rattle.std.proofs.Common.{◌<◌, ◌+◌, get_or, length, sym, subst, arith}
use Rattle.reg_levels.specs.Clusters.Places.{IsAt}
use Rattle.reg_levels.specs.Clusters.Steps.{AreSources}
use Rattle.reg_levels.proofs.ClusterLemmas.Places.{at-get, nothing}
use Rattle.reg_levels.proofs.ClusterLemmas.Origins.{first-unwritten, sources_push}
use Rattle.reg_levels.proofs.clusters.sources.sources.Goals as goal

pub returns-in-Err : goal.returns-in-Err
returns-in-Err c =
    let ops = c.args.ops.now in
    let i = c.loop-place.place in
    let r = get_or ops i nothing in
    let below : i < length ops = omega arith in
    let at = at-get ops i below in
    let e = c.in-Err.ensures r at in (
      r,
      subst (λ p. IsAt ops p r) (sym e.0) at,
      first-unwritten ops c.requires.history c.requires.by_call i r c.loop-place.sources.items
          c.loop-place.invariant at e.1,
    )

pub loop-place-preserved : goal.loop-place-preserved
loop-place-preserved c =
    let ops = c.args.ops.now in
    let i = c.loop-place.place in
    subst (AreSources ops (i + 1)) (sym c.in_ok-push-in-Ok.ensures.items)
    (sources_push ops i c.loop-place.sources.items c.in-Ok.source c.in-Ok.ensures c.loop-place.invariant)
