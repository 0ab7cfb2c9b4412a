use Rattle.std.proofs.Common.{get_or, arith, subst}
use Rattle.causal_order.specs.Covering.{IsNewest}
use Rattle.causal_order.proofs.Covers.{newest-behind, reached-more}
use Rattle.causal_order.proofs.graph.CausalGraph.join_newer.Goals as goal

pub loop-session-preserved : goal.loop-session-preserved
loop-session-preserved c =
    let n = c.loop-session.session in
    let of = c.args.of in
    let earlier = c.args.earlier.now in
    let later = c.args.later.now in
    record {
      graph = λ ops table i k g. c.in_ok-join_from.ensures.graph ops
          (c.loop-session.invariant.graph ops table i k g)
          (λ l e. newest-behind ops table of earlier later n l k
          (subst (IsNewest ops table of.register n (get_or earlier n 0) (get_or later n 0)) e
          (c.newest_between-newest.ensures ops table i)));
      keeps = λ a b h. c.in_ok-join_from.ensures.keeps a b (c.loop-session.invariant.keeps a b h);
      reached = λ ops table i. reached-more ops table of earlier later n c.loop-session.self.edges.items
          c.join_from.new.self.edges.items c.newest_between-newest.result
          (c.newest_between-newest.ensures ops table i) c.in_ok-join_from.ensures.reaches
          c.in_ok-join_from.ensures.keeps (c.loop-session.invariant.reached ops table i);
      longer = omega (arith, c.in_ok-join_from.ensures.longer, c.loop-session.invariant.longer);
    }
