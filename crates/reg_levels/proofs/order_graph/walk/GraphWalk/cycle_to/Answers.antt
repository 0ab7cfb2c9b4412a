use Rattle.std.proofs.Common.{◌≡◌, ◌-◌, ◌<◌, ◌++◌, ◌∷◌, [], suc, ℕ, Some, length, slice_get, arith, refl}
use Rattle.std.proofs.Common.{sym, subst}
use Rattle.std.proofs.lemmas.Option.{slice_get_read}
use Rattle.reg_levels.specs.OrderGraph.Graph.{IsNodeCycle}
use Rattle.reg_levels.proofs.OrderGraphLemmas.Rounds.{IsTurned, turned-cycle, turned-more, turned-none}
use Rattle.reg_levels.proofs.order_graph.walk.GraphWalk.cycle_to.Goals as goal

pub loop-place-init : goal.loop-place-init
loop-place-init c =
    let path = c.args.self.now.path.items in
    subst (λ xs. IsTurned path xs c.len-place.result c.args.node) (sym c.new-cycle.ensures.items)
    (subst (λ n. IsTurned path [] n c.args.node)
    (let e : length path ≡ c.len-place.result = omega (
      arith,
      c.len-place.ensures,
      c.args.self.now.path.ok.0,
    ) in e)
    (turned-none path c.args.node))

pub returns-then-at-node : goal.returns-then-at-node
returns-then-at-node c = λ edges round.
    let path = c.args.self.now.path.items in
    let low : ℕ = c.loop-place.place - 1 in
    let high : c.loop-place.place ≡ suc low = omega (arith, c.loop-place-test.true) in
    let turned : IsTurned path c.loop-place.cycle.items (suc low) c.args.node =
    subst (λ n. IsTurned path c.loop-place.cycle.items n c.args.node) high c.loop-place.invariant in
    let within : low < length path = omega (arith, turned.sizes) in
    let at : slice_get path low ≡ Some c.args.node =
    subst (λ x. slice_get path low ≡ Some x) c.if-at-node.true
    (slice_get_read path (length path) low c.index-at.result.now refl within c.index-at.ensures) in
    subst (IsNodeCycle edges)
    (let e : c.loop-place.cycle.items ++ c.args.node ∷ [] ≡ c.push.new.self.items =
    subst (λ x. c.loop-place.cycle.items ++ x ∷ [] ≡ c.push.new.self.items) c.if-at-node.true
    (sym c.in_ok-push.ensures.items) in e)
    (turned-cycle edges path c.loop-place.cycle.items low c.args.node round turned at)

pub loop-place-preserved : goal.loop-place-preserved
loop-place-preserved c =
    let path = c.args.self.now.path.items in
    let low : ℕ = c.loop-place.place - 1 in
    let high : c.loop-place.place ≡ suc low = omega (arith, c.loop-place-test.true) in
    let turned : IsTurned path c.loop-place.cycle.items (suc low) c.args.node =
    subst (λ n. IsTurned path c.loop-place.cycle.items n c.args.node) high c.loop-place.invariant in
    let within : low < length path = omega (arith, turned.sizes) in
    let at : slice_get path low ≡ Some c.index-at.result.now =
    slice_get_read path (length path) low c.index-at.result.now refl within c.index-at.ensures in
    subst (λ xs. IsTurned path xs low c.args.node) (sym c.in_ok-push.ensures.items)
    (turned-more path c.loop-place.cycle.items low c.args.node c.index-at.result.now turned at
    c.if-at-node.false)

pub unreachable-requires : goal.unreachable-requires
unreachable-requires c =
    c.loop-place.invariant.apart c.requires.there.0 (omega (arith, c.loop-place-test.false))
    c.requires.there.1
