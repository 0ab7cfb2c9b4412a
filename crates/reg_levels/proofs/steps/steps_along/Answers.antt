use Rattle.std.proofs.Common.{◌≡◌, ◌<◌, [], suc, Some, length, slice_get, slice_index_or, arith, refl, sym}
use Rattle.std.proofs.Common.{subst, add-one}
use Rattle.std.proofs.lemmas.List.{drop_all}
use Rattle.std.proofs.lemmas.Option.{slice_get-get_or, slice_get_read, slice_get_within}
use Rattle.reg_levels.proofs.OrderGraphLemmas.Places.{place-inside, place-same}
use Rattle.reg_levels.specs.declared.order_graph.edge.Edge.{Edge}
use Rattle.reg_levels.proofs.Tracing.{IsTrace, IsTraced, link_by, path-next, trace_all, trace_none}
use Rattle.reg_levels.proofs.Tracing.{trace_on, trace_step}
use Rattle.reg_levels.proofs.Turned.{path_within}
use Rattle.reg_levels.proofs.steps.steps_along.Goals.{then-edge-clusters+in_ok-push, else-edge-clusters}
use Rattle.reg_levels.proofs.steps.steps_along.Goals as goal

pub index-requires : goal.index-requires
index-requires c =
    let cycle = c.requires.turned in
    let e = path_within c.args.graph.now.edges.items cycle.1.0 c.args.turned.now _ 0 _ cycle.1.2
    (slice_get-get_or c.args.turned.now 0 0 cycle.0) in
    omega (arith, slice_get_within c.args.graph.now.edges.items _ e.0 e.1, c.args.graph.now.edges.ok.0)

pub loop-number-init : goal.loop-number-init
loop-number-init c =
    let edges = c.args.graph.now.edges.items in
    let cycle = c.requires.turned in
    let at = slice_get-get_or c.args.turned.now 0 0 cycle.0 in
    let e = path_within edges cycle.1.0 c.args.turned.now _ 0 _ cycle.1.2 at in
    let there : slice_get edges (slice_index_or c.args.turned.now 0 0) ≡ Some c.index.result.now =
    slice_get_read edges (length edges) _ c.index.result.now refl (slice_get_within edges _ e.0 e.1)
    c.index.ensures in
    record {
      within =
          omega (
            arith,
            cycle.1.1,
            (path-next edges cycle.1.0 c.args.turned.now cycle.1.0 0 _ c.index.result.now
                cycle.1.2 at there).0,
          );
      trace =
          λ g ops numbers calls a d w traced path here ends.
          let from : c.index.result.now.from ≡ a =
          (path-next edges a c.args.turned.now a 0 _ c.index.result.now path at there).0 in
          subst (λ xs. IsTrace g ops c.args.clusters.now calls edges c.args.turned.now a w 0 xs
          c.index.result.now.from)
          (sym c.new-steps.ensures.items)
          (subst (λ n. IsTrace g ops c.args.clusters.now calls edges c.args.turned.now a w 0 [] n) (sym from)
          (trace_none g ops c.args.clusters.now calls edges c.args.turned.now a d w path here ends));
    }

pub index-edge-requires : goal.index-edge-requires
index-edge-requires c =
    let cycle = c.requires.turned in
    let e = path_within c.args.graph.now.edges.items cycle.1.0 c.args.turned.now _
    c.loop-number.number-index _ cycle.1.2
    (slice_get-get_or c.args.turned.now c.loop-number.number-index 0 c.loop-number-test.true) in
    omega (arith, slice_get_within c.args.graph.now.edges.items _ e.0 e.1, c.args.graph.now.edges.ok.0)

pub step_by-requires-clause-edge : goal.step_by-requires-clause-edge
step_by-requires-clause-edge c =
    let cycle = c.requires.turned in
    let e = path_within c.args.graph.now.edges.items cycle.1.0 c.args.turned.now _
    c.loop-number.number-index _ cycle.1.2
    (slice_get-get_or c.args.turned.now c.loop-number.number-index 0 c.loop-number-test.true) in
    slice_get_within c.args.graph.now.edges.items _ e.0 e.1

pub step_by-requires-clause-to : goal.step_by-requires-clause-to
step_by-requires-clause-to c = λ e at.
    let edges = c.args.graph.now.edges.items in
    let there : slice_get edges (slice_index_or c.args.turned.now c.loop-number.number-index 0) ≡ Some
    c.index-edge.result.now =
    slice_get_read edges (length edges) _ c.index-edge.result.now refl (slice_get_within edges _ e at)
    c.index-edge.ensures in
    let same : c.index-edge.result.now ≡ e = place-same edges _ c.index-edge.result.now e there at in
    subst (λ (x : Edge). x.to < length c.args.clusters.now) same c.if-edge-clusters.true

pub loop-number-preserved : goal.loop-number-preserved
loop-number-preserved c =
    let edges = c.args.graph.now.edges.items in
    let clusters = c.args.clusters.now in
    let cycle = c.requires.turned in
    let place = c.loop-number.number-index in
    let at = slice_get-get_or c.args.turned.now place 0 c.loop-number-test.true in
    let e = path_within edges cycle.1.0 c.args.turned.now _ place _ cycle.1.2 at in
    let there : slice_get edges (slice_index_or c.args.turned.now place 0) ≡ Some c.index-edge.result.now =
    slice_get_read edges (length edges) _ c.index-edge.result.now refl (slice_get_within edges _ e.0 e.1)
    c.index-edge.ensures in
    elim c.if-edge-clusters.branch [
      | then-edge-clusters+in_ok-push w ↦ record {
        within = omega (arith, w.at-is, w.if-edge-clusters.true);
        trace =
            λ g ops numbers calls a d v traced path here ends.
            let t = c.loop-number.invariant.trace g ops numbers calls a d v traced path here ends in
            let o = place-inside clusters c.index-edge.result.now.to w.if-edge-clusters.true in
            let n = traced.table.each c.index-edge.result.now.to o.0 o.1 in
            let link = link_by g ops clusters numbers calls c.args.graph.now c.args.turned.now a v place
            c.loop-number.steps.items c.loop-number.at _ c.index-edge.result.now w.step_by.result o.0 n.0
            traced t at there
            o.1 n.1 w.step_by.ensures in
            let more = trace_step g ops clusters calls edges c.args.turned.now a v place
            c.loop-number.steps.items
            c.loop-number.at _ c.index-edge.result.now w.step_by.result o.0 n.0 t at there o.1 n.1 link in
            subst (λ m. IsTrace g ops clusters calls edges c.args.turned.now a v m
            c.if-edge-clusters.steps.items c.if-edge-clusters.at)
            (sym (add-one place))
            (subst (λ (xs : _). IsTrace g ops clusters calls edges c.args.turned.now a v (suc place)
            xs.items c.if-edge-clusters.at)
            (sym w.steps-is)
            (subst (λ xs. IsTrace g ops clusters calls edges c.args.turned.now a v (suc place) xs
            c.if-edge-clusters.at)
            (sym w.in_ok-push.ensures.items)
            (subst (IsTrace g ops clusters calls edges c.args.turned.now a v (suc place) _) (sym w.at-is)
            more)));
      }
      | else-edge-clusters w ↦ record {
        within = omega (arith, w.at-is, c.loop-number.invariant.within);
        trace =
            λ g ops numbers calls a d v traced path here ends.
            let t = c.loop-number.invariant.trace g ops numbers calls a d v traced path here ends in
            let more = trace_on g ops clusters numbers calls c.args.graph.now c.args.turned.now a v place
            c.loop-number.steps.items c.loop-number.at _ c.index-edge.result.now traced t at there
            w.if-edge-clusters.false in
            subst (λ m. IsTrace g ops clusters calls edges c.args.turned.now a v m
            c.if-edge-clusters.steps.items c.if-edge-clusters.at)
            (sym (add-one place))
            (subst (λ (xs : _). IsTrace g ops clusters calls edges c.args.turned.now a v (suc place)
            xs.items c.if-edge-clusters.at)
            (sym w.steps-is)
            (subst (IsTrace g ops clusters calls edges c.args.turned.now a v (suc place) _) (sym w.at-is)
            more));
      }
    ]

pub returns : goal.returns
returns c = λ g ops numbers calls history by_call table are_calls clean graph.
    let cycle = c.requires.turned in
    let traced : IsTraced g ops c.args.clusters.now numbers calls c.args.graph.now = record {
      history = history;
      by_call = by_call;
      table = table;
      are_calls = are_calls;
      clean = clean;
      graph_is = graph;
    } in
    let o = place-inside c.args.clusters.now cycle.1.0 cycle.1.1 in
    let n = table.each cycle.1.0 o.0 o.1 in
    trace_all g ops c.args.clusters.now calls c.args.graph.now.edges.items c.args.turned.now cycle.1.0 o.0 n.0
    c.loop-number.number-index c.loop-number.steps.items c.loop-number.at
    (c.loop-number.invariant.trace g ops numbers calls cycle.1.0 o.0 n.0 traced cycle.1.2 o.1 n.1)
    (drop_all c.loop-number.number-index c.args.turned.now c.loop-number-test.false)
    (λ z. omega (arith, z, c.loop-number-test.false, cycle.0)) o.1 n.1
