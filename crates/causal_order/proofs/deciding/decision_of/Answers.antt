use Rattle.std.proofs.Common.{length, sym, subst}
use Rattle.reg_levels.specs.OrderGraph.Graph.{AreAmong, IsForwardOrder, IsSorted}
use Rattle.reg_levels.specs.declared.order_graph.sorting.Sorted.TheVariants.{Order}
use Rattle.causal_order.proofs.Answering.{broken-decision, graph-among, reads-within}
use Rattle.causal_order.proofs.Learning.{table-range}
use Rattle.causal_order.proofs.Ordering.{causal-order}
use Rattle.causal_order.proofs.Placing.{ops-at}
use Rattle.causal_order.proofs.Testing.{listed-below}
use Rattle.causal_order.proofs.deciding.decision_of.Goals as goal

pub sort-requires-clause-among : goal.sort-requires-clause-among
sort-requires-clause-among c =
    subst (AreAmong (length c.args.ops.now)) (sym c.deref.ensures.value)
    (graph-among c.args.ops.now c.args.graph.now c.requires.graph)

pub steps_of-requires-clause-range : goal.steps_of-requires-clause-range
steps_of-requires-clause-range c = table-range c.args.ops.now c.args.table.now c.requires.table

pub steps_of-requires-clause-within : goal.steps_of-requires-clause-within
steps_of-requires-clause-within c =
    reads-within c.args.ops.now (length c.args.table.now.previous.items) c.args.graph.now c.requires.graph
    c.requires.table.is_table.previous

pub writes_in-requires-clause-range : goal.writes_in-requires-clause-range
writes_in-requires-clause-range c = table-range c.args.ops.now c.args.table.now c.requires.table

pub returns-in_ok-steps_of-in-Cycle : goal.returns-in_ok-steps_of-in-Cycle
returns-in_ok-steps_of-in-Cycle c =
    broken-decision c.args.ops.now c.in_ok-steps_of-in-Cycle.field-0 c.broken.result c.broken.ensures
    (c.in_ok-steps_of-in-Cycle.ensures c.args.ops.now c.requires.table c.requires.graph)

pub returns-in_ok-writes_in-in-Order : goal.returns-in_ok-writes_in-in-Order
returns-in_ok-writes_in-in-Order c =
    let ops = c.args.ops.now in
    let edges = c.args.graph.now.edges.items in
    let order = c.deref-in-Order.result.now in
    let sorted : IsSorted (length ops) c.deref.result.now (Order c.in-Order.order) =
    subst (IsSorted (length ops) c.deref.result.now) c.in-Order.is c.in_ok-cycle.ensures in
    let forward : IsForwardOrder (length ops) edges order =
    subst (λ es. IsForwardOrder (length ops) es order) c.deref.ensures.value
    (subst (IsForwardOrder (length ops) c.deref.result.now) (sym c.deref-in-Order.ensures.value) sorted) in
    let (read, reads, e) = c.in_ok-writes_in-in-Order.ensures in
    let places = c.in_ok-writes_in-in-Order.field-0.items in
    let listed = ops-at ops places (listed-below ops edges order read places forward e) in (
      listed.0,
      listed.1,
      causal-order ops c.args.table.now c.requires.table edges order read places listed.0
          c.requires.learned forward c.requires.settled reads e listed.1,
    )
