use Rattle.std.proofs.Common.{◌≡◌, ◌+◌, length, get_or, sym, subst, arith}
use Rattle.std.proofs.lemmas.Option.{slice_get-get_or}
use Rattle.history_model.proofs.Lists.{slice_get_inside}
use Rattle.reg_levels.proofs.ClusterLemmas.Places.{nothing}
use Rattle.causal_order.specs.SessionClocks.Sessions.{IsAt}
use Rattle.causal_order.specs.SessionClocks.Steps.{AreSources}
use Rattle.causal_order.proofs.SessionClockLemmas.Valued.{source-written, sources-begin, sources-more}
use Rattle.causal_order.proofs.session_clocks.sources.sources.Goals as goal

pub loop-place-init : goal.loop-place-init
loop-place-init c =
    sources-begin c.args.ops.now c.in_ok-sources.sources.items c.in_ok-sources.ensures.items

pub returns-in-Err : goal.returns-in-Err
returns-in-Err c =
    let ops = c.args.ops.now in
    let i = c.loop-place.place in
    let r = get_or ops i nothing in
    let at = slice_get-get_or ops i nothing c.loop-place-test.true in
    let e = c.in-Err.ensures r at in (
      r,
      subst (λ p. IsAt ops p r) (sym e.0) at,
      e.1,
      λ q b l at-b u.
          let s = slice_get_inside c.loop-place.sources.items q
          (omega (arith, l, e.0, c.loop-place.invariant.places)) in
          source-written ops b s.0 (c.loop-place.invariant.each q b s.0 at-b s.1) u,
    )

pub loop-place-preserved : goal.loop-place-preserved
loop-place-preserved c =
    let ops = c.args.ops.now in
    let i = c.loop-place.place in
    let at = slice_get-get_or ops i nothing c.loop-place-test.true in
    subst (AreSources ops (i + 1)) (sym c.in_ok-push-in-Ok.ensures.items)
    (sources-more ops i c.loop-place.sources.items c.in-Ok.source _ at (c.in-Ok.ensures _ at)
    c.loop-place.invariant)

pub returns : goal.returns
returns c =
    let all : c.loop-place.place ≡ length c.args.ops.now =
    omega (arith, c.loop-place-test.false, c.loop-place.auto.place-end) in
    subst (λ i. AreSources c.args.ops.now i c.loop-place.sources.items) all c.loop-place.invariant
