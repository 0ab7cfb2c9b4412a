use Rattle.std.proofs.Common.{◌++◌, [], ◌∷◌, slice_index_or, take, arith, refl, sym, subst, ◌∙◌}
use Rattle.std.proofs.lemmas.List.{take_more, take_all}
use Rattle.causal_order.specs.Ways.{AreEdgeSteps}
use Rattle.causal_order.proofs.Stepping.{cycle-at, cycle-steps, edge-steps-push}
use Rattle.causal_order.proofs.steps.steps_of.Goals as goal

pub index-edge-requires : goal.index-edge-requires
index-edge-requires c =
    let h = cycle-at c.args.graph.now c.args.cycle.now c.loop-number.number-index c.requires.count
    c.requires.cycle
    c.loop-number-test.true in
    omega (arith, h.within, c.args.graph.now.edges.ok.0)

pub index-reason-requires : goal.index-reason-requires
index-reason-requires c =
    let h = cycle-at c.args.graph.now c.args.cycle.now c.loop-number.number-index c.requires.count
    c.requires.cycle
    c.loop-number-test.true in
    omega (arith, h.within, c.requires.count, c.args.graph.now.reasons.ok.0)

pub why_of-requires-clause-within : goal.why_of-requires-clause-within
why_of-requires-clause-within c =
    let h = cycle-at c.args.graph.now c.args.cycle.now c.loop-number.number-index c.requires.count
    c.requires.cycle
    c.loop-number-test.true in
    c.requires.within _ c.index-reason.result.now (h.reason c.index-reason.result.now c.index-reason.ensures)

pub loop-number-preserved : goal.loop-number-preserved
loop-number-preserved c =
    let table = c.args.table.now in
    let graph = c.args.graph.now in
    let cycle = c.args.cycle.now in
    let i = c.loop-number.number-index in
    let h = cycle-at graph cycle i c.requires.count c.requires.cycle c.loop-number-test.true in
    record {
      stamps = c.in_ok-why.ensures.stamps ∙ c.loop-number.invariant.stamps;
      steps = subst (λ ks. AreEdgeSteps table graph ks c.push.new.self.items)
          (sym (take_more cycle i 0 c.loop-number-test.true))
          (subst (AreEdgeSteps table graph (take i cycle ++ slice_index_or cycle i 0 ∷ []))
          (sym c.in_ok-push.ensures.items)
          (edge-steps-push table graph (take i cycle) c.loop-number.steps.items _ c.index-edge.result.now
          c.index-reason.result.now _ c.loop-number.invariant.steps
          (h.edge c.index-edge.result.now c.index-edge.ensures)
          (h.reason c.index-reason.result.now c.index-reason.ensures)
          (record { from = refl; to = refl; why = c.in_ok-why.ensures.shown })));
    }

pub returns : goal.returns
returns c = λ ops t g.
    cycle-steps ops c.args.table.now t c.args.graph.now g c.args.cycle.now c.loop-number.steps.items
    (subst (λ ks. AreEdgeSteps c.args.table.now c.args.graph.now ks c.loop-number.steps.items)
    (take_all c.loop-number.number-index c.args.cycle.now c.loop-number-test.false)
    c.loop-number.invariant.steps)
    c.requires.cycle
