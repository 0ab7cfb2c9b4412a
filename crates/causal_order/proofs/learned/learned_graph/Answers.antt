use Rattle.std.proofs.Common.{◌≡◌, ◌<◌, Some, length, slice_get, arith, refl, ap, ◌∙◌}
use Rattle.std.proofs.lemmas.Option.{slice_get_read}
use Rattle.causal_order.proofs.Behind.{previous-behind, source-behind}
use Rattle.causal_order.proofs.Joining.{graph-none, learned-more}
use Rattle.causal_order.proofs.learned.learned_graph.Goals as goal

pub loop-place-init : goal.loop-place-init
loop-place-init c = record {
  graph = λ ops called table. graph-none ops c.new-graph.result c.new-graph.ensures.edges
      c.new-graph.ensures.reasons;
  learned = λ p q l. absurd (omega arith);
  few = omega (arith, ap length c.new-graph.ensures.edges);
}

pub loop-place-preserved : goal.loop-place-preserved
loop-place-preserved c =
    let table = c.args.table.now in
    let place = c.loop-place.place in
    let there : place < length table.previous.items =
    omega (arith, c.loop-place-test.true, c.len-place-end.ensures, table.previous.ok.0) in
    let previous : slice_get table.previous.items place ≡ Some c.index.result.now =
    slice_get_read table.previous.items _ place c.index.result.now refl there c.index.ensures in
    let source : slice_get table.sources.items place ≡ Some c.index-in-loop-place.result.now =
    slice_get_read table.sources.items _ place c.index-in-loop-place.result.now refl
    (omega (arith, there, c.requires.places)) c.index-in-loop-place.ensures in
    record {
      graph = λ ops called is. c.in_ok-join_from-2.ensures.graph ops
          (c.in_ok-join_from.ensures.graph ops (c.loop-place.invariant.graph ops called is)
          (λ a e. previous-behind ops table called is place a (previous ∙ ap Some e)))
          (λ a e. source-behind ops table called is place a (source ∙ ap Some e));
      learned = learned-more table place c.loop-place.graph.edges.items c.join_from.new.self.edges.items
          c.join_from-in-loop-place.new.self.edges.items c.index.result.now c.index-in-loop-place.result.now
          c.loop-place.invariant.learned c.in_ok-join_from.ensures.keeps c.in_ok-join_from-2.ensures.keeps
          previous
          source c.in_ok-join_from.ensures.reaches c.in_ok-join_from-2.ensures.reaches;
      few = omega (
        arith,
        c.in_ok-join_from.ensures.longer,
        c.in_ok-join_from-2.ensures.longer,
        c.loop-place.invariant.few,
      );
    }
