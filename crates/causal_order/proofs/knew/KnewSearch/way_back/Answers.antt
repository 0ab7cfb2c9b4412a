use Rattle.std.proofs.Common.{◌≡◌, ◌-◌, suc, Some, length, slice_get, slice_index_or, arith, refl, subst}
use Rattle.std.proofs.Common.{rules}
use Rattle.std.proofs.lemmas.Option.{slice_get_read}
use Rattle.causal_order.proofs.Meeting.{IsTrail, trail-found, trail-more, trail-none}
use Rattle.causal_order.proofs.knew.KnewSearch.way_back.Goals as goal

pub loop-next-init : goal.loop-next-init
loop-next-init c = record {
  within = c.requires.within;
  trail = λ table read m are at asks. trail-none table c.args.self.now.met.items c.args.write c.args.at _ m
      c.in_ok-knew.ensures.items at asks;
}

pub loop-next-smaller : goal.loop-next-smaller
loop-next-smaller c =
    let met = c.args.self.now.met.items in
    let at : slice_get met (suc (c.loop-next.next - 1)) ≡ Some c.index-met.result.now =
    slice_get_read met (length met) _ c.index-met.result.now refl
    (omega (arith, c.loop-next.invariant.within, c.loop-next-test.true))
    (subst (λ n. c.index-met.result.now ≡ slice_index_or met n c.index-met.result.now)
    (let e : c.loop-next.next ≡ suc (c.loop-next.next - 1) = omega (arith, c.loop-next-test.true) in e)
    c.index-met.ensures) in
    omega (arith, c.requires.before (c.loop-next.next - 1) c.index-met.result.now at, c.loop-next-test.true)

pub loop-next-preserved : goal.loop-next-preserved
loop-next-preserved c =
    let met = c.args.self.now.met.items in
    let high : c.loop-next.next ≡ suc (c.loop-next.next - 1) = omega (arith, c.loop-next-test.true) in
    let at : slice_get met (suc (c.loop-next.next - 1)) ≡ Some c.index-met.result.now =
    slice_get_read met (length met) _ c.index-met.result.now refl
    (omega (arith, c.loop-next.invariant.within, c.loop-next-test.true))
    (subst (λ n. c.index-met.result.now ≡ slice_index_or met n c.index-met.result.now) high
    c.index-met.ensures) in
    record {
      within =
          omega (
            arith,
            c.requires.before (c.loop-next.next - 1) c.index-met.result.now at,
            c.loop-next.invariant.within,
            c.loop-next-test.true,
          );
      trail = λ table read m are there asks.
          trail-more table read met c.args.write (c.loop-next.next - 1) c.loop-next.knew.items
          c.push.new.self.items c.index-met.result.now are
          (subst (λ n. IsTrail table met c.args.write n c.loop-next.knew.items) high
          (c.loop-next.invariant.trail table read m are there asks)) at c.in_ok-push.ensures.items;
    }

pub returns : goal.returns
returns c = λ table read m are here asks.
    let met = c.args.self.now.met.items in
    let at : slice_get met 0 ≡ Some c.index.result.now =
    slice_get_read met (length met) 0 c.index.result.now refl are.some c.index.ensures in
    trail-found table read met c.args.write c.loop-next.knew.items c.push-2.new.self.items
    c.index.result.now are
    (subst (λ n. IsTrail table met c.args.write n c.loop-next.knew.items)
    (let e : c.loop-next.next ≡ 0 = search rules in e) (c.loop-next.invariant.trail table read m are here
    asks)) at
    c.in_ok-push-2.ensures.items
