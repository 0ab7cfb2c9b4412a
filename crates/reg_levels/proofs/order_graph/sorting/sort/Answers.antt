use Rattle.std.proofs.Common.{Option, Some, None, arith, sym, subst}
use Rattle.std.specs.Option.{IfSome, unwrap_or}
use Rattle.std.proofs.lemmas.List.{nil_from_length}
use Rattle.reg_levels.specs.OrderGraph.Graph.{IsNodeCycle}
use Rattle.reg_levels.specs.OrderGraph.GraphWalk.{IsWalked}
use Rattle.reg_levels.proofs.OrderGraphLemmas.Walking.{walked-all}
use Rattle.reg_levels.proofs.order_graph.sorting.sort.Goals as goal

-- what holds of the value, if there is one, and of the default holds of the one that is chosen
unwrap_or_either : {X : Type 0} (P : X → Type 0) (o : Option X) (d : X) → IfSome o P → P d → P (unwrap_or o d)
unwrap_or_either P None d h k = k
unwrap_or_either P (Some x) d h k = h

pub shorter-requires-clause-within : goal.shorter-requires-clause-within
shorter-requires-clause-within c =
    let met = rw c.in-Some.is at c.in_ok-met.ensures.meets in
    omega (arith, met.0, c.in_ok-met.ensures.goes.sizes, c.loop-node.invariant.size)

pub edges_along-requires-clause-cycle : goal.edges_along-requires-clause-cycle
edges_along-requires-clause-cycle c =
    let met = rw c.in-Some.is at c.in_ok-met.ensures.meets in
    subst (IsNodeCycle c.args.edges.now) (sym c.deref.ensures.value)
    (subst (λ (v : _). IsNodeCycle c.args.edges.now v.items) (sym c.unwrap_or-cycle.ensures)
    (unwrap_or_either (λ (v : _). IsNodeCycle c.args.edges.now v.items) c.in_ok-short.short
    c.in_ok-found.found
    c.in_ok-short.ensures (c.in_ok-found.ensures c.args.edges.now met.1)))

pub returns : goal.returns
returns c =
    let h = c.loop-node.invariant in
    let walk = c.loop-node.walk in
    subst (λ xs. Rattle.reg_levels.specs.OrderGraph.Graph.IsForwardOrder c.args.nodes c.args.edges.now xs)
    (sym c.into_placed.ensures)
    (walked-all c.args.edges.now walk.ahead.items walk.marks.items walk.placed.items c.args.nodes
    (subst (λ xs. IsWalked c.args.edges.now walk.ahead.items walk.marks.items xs walk.placed.items)
    (nil_from_length walk.path.items h.path) h.walk)
    h.size (λ v l. h.met v (omega (arith, l, c.loop-node-test.false))))
