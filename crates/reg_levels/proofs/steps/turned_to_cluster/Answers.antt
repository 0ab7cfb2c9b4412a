use Rattle.std.proofs.Common.{◌≡◌, Some, length, slice_get, slice_index_or, arith, refl, ap, subst, inl, inr}
use Rattle.std.proofs.lemmas.Bool.{cases_order}
use Rattle.std.proofs.lemmas.Grind.{common_steps}
use Rattle.std.proofs.lemmas.Option.{slice_get-get_or, slice_get_read, slice_get_within}
use Rattle.reg_levels.proofs.OrderGraphLemmas.Places.{place-same}
use Rattle.reg_levels.specs.declared.order_graph.edge.Edge.{Edge}
use Rattle.reg_levels.proofs.Turned.{path_within, turned_is}
use Rattle.reg_levels.proofs.steps.turned_to_cluster.Goals as goal

pub index-edge-requires : goal.index-edge-requires
index-edge-requires c =
    let e = path_within c.args.graph.now.edges.items c.requires.cycle.1.0 c.args.cycle.now _
    c.loop-place.place _
    c.requires.cycle.1.1 (slice_get-get_or c.args.cycle.now c.loop-place.place 0 c.loop-place-test.true) in
    omega (arith, slice_get_within c.args.graph.now.edges.items _ e.0 e.1, c.args.graph.now.edges.ok.0)

pub returns-then-edge-count : goal.returns-then-edge-count
returns-then-edge-count c =
    let edges = c.args.graph.now.edges.items in
    let at = slice_get-get_or c.args.cycle.now c.loop-place.place 0 c.loop-place-test.true in
    let e = path_within edges c.requires.cycle.1.0 c.args.cycle.now _ c.loop-place.place _
    c.requires.cycle.1.1 at in
    let there : slice_get edges (slice_index_or c.args.cycle.now c.loop-place.place 0) ≡ Some
    c.index-edge.result.now =
    slice_get_read edges (length edges) _ c.index-edge.result.now refl (slice_get_within edges _ e.0 e.1)
    c.index-edge.ensures in
    turned_is edges c.args.count c.requires.cycle.1.0 c.args.cycle.now c.extend_from_slice.new.self.items
    c.loop-place.place _ c.index-edge.result.now c.requires.cycle.1.1 at there c.if-edge-count.true
    (grind (arith, common_steps))

pub loop-place-preserved : goal.loop-place-preserved
loop-place-preserved c = λ i k e l at there from.
    let edges = c.args.graph.now.edges.items in
    let here = slice_get-get_or c.args.cycle.now c.loop-place.place 0 c.loop-place-test.true in
    let w = path_within edges c.requires.cycle.1.0 c.args.cycle.now _ c.loop-place.place _
    c.requires.cycle.1.1 here in
    let this : slice_get edges (slice_index_or c.args.cycle.now c.loop-place.place 0) ≡ Some
    c.index-edge.result.now =
    slice_get_read edges (length edges) _ c.index-edge.result.now refl (slice_get_within edges _ w.0 w.1)
    c.index-edge.ensures in
    elim (cases_order i c.loop-place.place) [
      | inl q ↦
          let same_k : k ≡ slice_index_or c.args.cycle.now c.loop-place.place 0 =
          place-same c.args.cycle.now c.loop-place.place k _ (subst (λ n. slice_get c.args.cycle.now n ≡
          Some k) q at) here in
          let same : e ≡ c.index-edge.result.now =
          place-same edges _ e c.index-edge.result.now (subst (λ n. slice_get edges n ≡ Some e) same_k
          there) this in
          omega (arith, c.if-edge-count.false, from, ap (λ (x : Edge). x.from) same)
      | inr o ↦ elim o [
        | inl q ↦ c.loop-place.invariant i k e q at there from
        | inr q ↦ omega (arith, l, q)
      ]
    ]

pub unreachable-requires : goal.unreachable-requires
unreachable-requires c =
    let m = c.requires.meets c.requires.cycle.1.0 c.requires.cycle.1.1 in
    c.loop-place.invariant m.1 m.0 m.2
    (omega (arith, c.loop-place-test.false, slice_get_within c.args.cycle.now m.1 m.0 m.3)) m.3 m.4 m.5
