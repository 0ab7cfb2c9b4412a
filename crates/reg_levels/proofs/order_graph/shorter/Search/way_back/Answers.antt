use Rattle.std.proofs.Common.{◌≡◌, ◌-◌, suc, Some, length, slice_get, slice_index_or, arith, refl, sym}
use Rattle.std.proofs.Common.{subst, rules}
use Rattle.std.proofs.lemmas.Option.{slice_get_read}
use Rattle.reg_levels.specs.OrderGraph.Graph.{IsNodeCycle}
use Rattle.reg_levels.proofs.OrderGraphLemmas.Trails.{IsTrail, trail-cycle, trail-more}
use Rattle.reg_levels.proofs.order_graph.shorter.Search.way_back.Goals as goal

pub loop-place-smaller : goal.loop-place-smaller
loop-place-smaller c =
    let met = c.args.self.now.met.items in
    let at : slice_get met (suc (c.loop-place.place - 1)) ≡ Some c.index-at.result.now =
    slice_get_read met (length met) _ c.index-at.result.now refl
    (omega (arith, c.loop-place.invariant.within, c.loop-place-test.true))
    (subst (λ n. c.index-at.result.now ≡ slice_index_or met n c.index-at.result.now)
    (let e : c.loop-place.place ≡ suc (c.loop-place.place - 1) = omega (arith, c.loop-place-test.true) in e)
    c.index-at.ensures) in
    omega (arith, c.requires.before (c.loop-place.place - 1) c.index-at.result.now at, c.loop-place-test.true)

pub loop-place-preserved : goal.loop-place-preserved
loop-place-preserved c =
    let met = c.args.self.now.met.items in
    let high : c.loop-place.place ≡ suc (c.loop-place.place - 1) = omega (arith, c.loop-place-test.true) in
    let at : slice_get met (suc (c.loop-place.place - 1)) ≡ Some c.index-at.result.now =
    slice_get_read met (length met) _ c.index-at.result.now refl
    (omega (arith, c.loop-place.invariant.within, c.loop-place-test.true))
    (subst (λ n. c.index-at.result.now ≡ slice_index_or met n c.index-at.result.now) high
    c.index-at.ensures) in
    record {
      within =
          omega (
            arith,
            c.requires.before (c.loop-place.place - 1) c.index-at.result.now at,
            c.loop-place.invariant.within,
            c.loop-place-test.true,
          );
      trail =
          λ nodes edges start are.
          subst (IsTrail edges met c.args.from c.index-at.result.now.by) (sym c.in_ok-push.ensures.items)
          (trail-more nodes edges start met c.args.from (c.loop-place.place - 1) c.loop-place.cycle.items
          c.index-at.result.now are
          (subst (λ n. IsTrail edges met c.args.from n c.loop-place.cycle.items) high
          (c.loop-place.invariant.trail nodes edges start are)) at);
    }

pub returns : goal.returns
returns c = λ nodes edges start m are here leads.
    let met = c.args.self.now.met.items in
    let at : slice_get met 0 ≡ Some c.index.result.now =
    slice_get_read met (length met) 0 c.index.result.now refl are.some c.index.ensures in
    subst (IsNodeCycle edges) (sym c.in_ok-push-2.ensures.items)
    (trail-cycle nodes edges start met c.args.from c.loop-place.cycle.items c.index.result.now m are
    (subst (λ n. IsTrail edges met c.args.from n c.loop-place.cycle.items)
    (let e : c.loop-place.place ≡ 0 = search rules in e) (c.loop-place.invariant.trail nodes edges start
    are)) at here
    leads)
