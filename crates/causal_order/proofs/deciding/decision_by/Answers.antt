use Rattle.std.proofs.Common.{◌<◌, ◌*◌, ◌^◌, length, refl, sym, subst}
use Rattle.reg_levels.specs.OrderGraph.Graph.{AreAmong, IsForwardOrder, IsSorted}
use Rattle.reg_levels.specs.declared.order_graph.sorting.Sorted.TheVariants.{Order}
use Rattle.causal_order.specs.CausalGraph.{AreLearned}
use Rattle.causal_order.proofs.Answering.{broken-decision, graph-among, reads-within, work-beyond}
use Rattle.causal_order.proofs.Learning.{forward-learning, learning-of, table-range}
use Rattle.causal_order.proofs.deciding.decision_by.Goals as goal

pub returns-then-from-ops-gt-MAX_WORK : goal.returns-then-from-ops-gt-MAX_WORK
returns-then-from-ops-gt-MAX_WORK c =
    work-beyond c.args.ops.now c.args.table.now (length c.args.ops.now) c.requires.table.is_table refl
    (subst (λ n. 2 ^ 31 < n * length c.args.ops.now) c.from.ensures c.if-from-ops-gt-MAX_WORK.true)

pub sort-requires-clause-among : goal.sort-requires-clause-among
sort-requires-clause-among c =
    subst (AreAmong (length c.args.ops.now)) (sym c.deref.ensures.value)
    (graph-among c.args.ops.now c.in_ok-graph.graph
    (c.in_ok-graph.ensures.graph c.args.ops.now c.requires.table.called c.requires.table.is_table))

pub steps_of-requires-clause-range : goal.steps_of-requires-clause-range
steps_of-requires-clause-range c = table-range c.args.ops.now c.args.table.now c.requires.table

pub steps_of-requires-clause-within : goal.steps_of-requires-clause-within
steps_of-requires-clause-within c =
    reads-within c.args.ops.now (length c.args.table.now.previous.items) c.in_ok-graph.graph
    (c.in_ok-graph.ensures.graph c.args.ops.now c.requires.table.called c.requires.table.is_table)
    c.requires.table.is_table.previous

pub decision_along-requires-clause-learning : goal.decision_along-requires-clause-learning
decision_along-requires-clause-learning c =
    let ops = c.args.ops.now in
    let table = c.args.table.now in
    let edges = c.in_ok-graph.graph.edges.items in
    let order = c.deref-in-Order.result.now in
    let sorted : IsSorted (length ops) c.deref.result.now (Order c.in-Order.order) =
    subst (IsSorted (length ops) c.deref.result.now) c.in-Order.is c.in_ok-cycle.ensures in
    let forward : IsForwardOrder (length ops) edges order =
    subst (λ es. IsForwardOrder (length ops) es order) c.deref.ensures.value
    (subst (IsForwardOrder (length ops) c.deref.result.now) (sym c.deref-in-Order.ensures.value) sorted) in
    learning-of ops table c.requires.table order (forward-learning ops table c.requires.table edges order
    (subst (λ n. AreLearned table n edges) c.requires.table.is_table.previous
    c.in_ok-graph.ensures.learned) forward)

pub decision_along-requires-clause-all : goal.decision_along-requires-clause-all
decision_along-requires-clause-all c =
    let ops = c.args.ops.now in
    let sorted : IsSorted (length ops) c.deref.result.now (Order c.in-Order.order) =
    subst (IsSorted (length ops) c.deref.result.now) c.in-Order.is c.in_ok-cycle.ensures in
    let forward : IsForwardOrder (length ops) c.deref.result.now c.deref-in-Order.result.now =
    subst (IsForwardOrder (length ops) c.deref.result.now) (sym c.deref-in-Order.ensures.value) sorted in
    forward.all

pub returns-in_ok-steps_of-in-Cycle : goal.returns-in_ok-steps_of-in-Cycle
returns-in_ok-steps_of-in-Cycle c =
    broken-decision c.args.ops.now c.in_ok-steps_of-in-Cycle.field-0 c.broken.result c.broken.ensures
    (c.in_ok-steps_of-in-Cycle.ensures c.args.ops.now c.requires.table
    (c.in_ok-graph.ensures.graph c.args.ops.now c.requires.table.called c.requires.table.is_table))
