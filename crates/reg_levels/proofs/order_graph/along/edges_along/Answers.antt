use Rattle.std.proofs.Common.{◌≡◌, ◌+◌, ◌-◌, suc, Some, length, slice_get, slice_index_or}
use Rattle.std.proofs.Common.{arith, sym, ap, subst}
use Rattle.std.proofs.lemmas.List.{length_push}
use Rattle.std.proofs.lemmas.Option.{slice_get-get_or}
use Rattle.reg_levels.specs.OrderGraph.Graph.{IsEdgeOf, IsPath}
use Rattle.reg_levels.proofs.OrderGraphLemmas.Paths.{path-push}
use Rattle.reg_levels.proofs.OrderGraphLemmas.Places.{place-same}
use Rattle.reg_levels.proofs.order_graph.along.edges_along.Goals as goal

pub edge_between-requires-clause-there : goal.edge_between-requires-clause-there
edge_between-requires-clause-there c =
    let cycle = c.args.cycle.now in
    let place = c.loop-place.place in
    let here : suc (place - 1) ≡ place = omega (arith, c.loop-place.auto.place) in
    c.requires.cycle.steps (place - 1) _ _
    (slice_get-get_or cycle (place - 1) 0 (omega (arith, c.loop-place-test.true)))
    (subst (λ n. slice_get cycle n ≡ Some (slice_index_or cycle place 0)) (sym here)
    (slice_get-get_or cycle place 0 c.loop-place-test.true))

pub loop-place-preserved : goal.loop-place-preserved
loop-place-preserved c = λ a b first last.
    let cycle = c.args.cycle.now in
    let place = c.loop-place.place in
    let at : slice_get cycle place ≡ Some b =
    subst (λ n. slice_get cycle n ≡ Some b) (let e : place + 1 - 1 ≡ place = omega arith in e) last in
    let same : slice_index_or cycle place 0 ≡ b =
    place-same cycle place _ b (slice_get-get_or cycle place 0 c.loop-place-test.true) at in
    let before = c.loop-place.invariant a (slice_index_or cycle (place - 1) 0) first
    (slice_get-get_or cycle (place - 1) 0 (omega (arith, c.loop-place-test.true))) in
    subst (λ xs. IsPath c.args.edges.now a xs b) (sym c.in_ok-push.ensures.items)
    (path-push c.args.edges.now a c.loop-place.numbers.items _ b _ before
    (subst (λ x. IsEdgeOf c.args.edges.now (slice_index_or cycle (place - 1) 0) x c.edge_between.result) same
    c.edge_between.ensures))

pub edge_between-requires-2-clause-there : goal.edge_between-requires-2-clause-there
edge_between-requires-2-clause-there c =
    let cycle = c.args.cycle.now in
    c.requires.cycle.closes _ _
    (slice_get-get_or cycle (length cycle - 1) 0 (omega (arith, c.requires.cycle.some)))
    (slice_get-get_or cycle 0 0 c.requires.cycle.some)

pub returns : goal.returns
returns c =
    let cycle = c.args.cycle.now in
    let first = slice_index_or cycle 0 0 in
    let last = slice_index_or cycle (length cycle - 1) 0 in
    let end : c.loop-place.place - 1 ≡ length cycle - 1 =
    omega (
      arith,
      c.loop-place-test.false,
      c.loop-place.auto.place-end,
      c.loop-place.auto.place,
      c.requires.cycle.some,
    ) in
    let before : IsPath c.args.edges.now first c.loop-place.numbers.items last =
    c.loop-place.invariant first last (slice_get-get_or cycle 0 0 c.requires.cycle.some)
    (subst (λ n. slice_get cycle n ≡ Some last) (sym end)
    (slice_get-get_or cycle (length cycle - 1) 0 (omega (arith, c.requires.cycle.some)))) in (
      omega (
        arith,
        ap length c.in_ok-push-2.ensures.items,
        length_push c.loop-place.numbers.items
            c.edge_between-2.result,
      ),
      (
        first,
        subst (λ xs. IsPath c.args.edges.now first xs first) (sym c.in_ok-push-2.ensures.items)
            (path-push c.args.edges.now first c.loop-place.numbers.items last first _ before
            c.edge_between-2.ensures),
      ),
    )
