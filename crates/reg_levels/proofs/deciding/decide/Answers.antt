use Rattle.std.proofs.Common.{◌≡◌, ◌<◌, ◌^◌, ◌*◌, length, nat_lt, true, arith, sym, ap, subst}
use Rattle.std.specs.List.{filter}
use Rattle.std.proofs.lemmas.Bool.{ltb-true}
use Rattle.std.proofs.lemmas.List.Elements.{All-same, All-weaker, filter_passes}
use Rattle.level_laws.specs.Evidence.Evidence.{cycle, early}
use Rattle.reg_levels.specs.OrderGraph.Graph.{AreAmong, IsForwardOrder}
use Rattle.reg_levels.specs.Clusters.Table.{IsClusterTable}
use Rattle.reg_levels.specs.LevelGraph.{AreWriteCalls, IsLevelGraph}
use Rattle.reg_levels.proofs.Numbering.{clusters_few}
use Rattle.reg_levels.proofs.Ordering.{cycle_meets, graph_among, order_writes}
use Rattle.reg_levels.proofs.deciding.decide.Goals as goal

pub returns-in-Some : goal.returns-in-Some
returns-in-Some c =
    let f = c.in-Some.ensures.some in (early f.0 f.1, (f.2, f.3), f.4)

pub overflow_cast-count : goal.overflow_cast-count
overflow_cast-count c =
    let few = clusters_few c.args.ops.now c.args.table.now.clusters.items c.args.table.now.numbers.items
    c.requires.table in
    let small : length c.args.ops.now < 2 ^ 32 = omega (arith, c.requires.few) in
    omega (arith, few, small, c.len-count.ensures, c.args.table.now.clusters.ok.0)

pub overflow_mul-count : goal.overflow_mul-count
overflow_mul-count c =
    let few = clusters_few c.args.ops.now c.args.table.now.clusters.items c.args.table.now.numbers.items
    c.requires.table in
    let small : 2 * length c.args.ops.now < 2 ^ 32 = omega (arith, c.requires.few) in
    omega (arith, few, small, c.len-count.ensures, c.args.table.now.clusters.ok.0)

pub sort-requires-clause-among : goal.sort-requires-clause-among
sort-requires-clause-among c =
    let w = c.in_ok-graph.ensures.graph in
    let count : length c.args.table.now.clusters.items ≡ c.len-count.result =
    omega (arith, c.len-count.ensures, c.args.table.now.clusters.ok.0) in
    subst (AreAmong (2 * c.len-count.result)) (sym c.deref.ensures.value)
    (subst (λ n. AreAmong (2 * n) c.in_ok-graph.graph.edges.items) count
    (graph_among c.args.guarantee c.args.ops.now c.args.table.now.clusters.items
    c.args.table.now.numbers.items w.calls
    c.in_ok-graph.graph c.requires.table w.are_calls.count w.sound))

pub returns-in-Order : goal.returns-in-Order
returns-in-Order c =
    let clusters = c.args.table.now.clusters.items in
    let count : c.len-count.result ≡ length clusters =
    omega (arith, c.len-count.ensures, c.args.table.now.clusters.ok.0) in
    let sorted = rw c.in-Order.is at c.in_ok-order.ensures in
    let order : IsForwardOrder (2 * length clusters) c.in_ok-graph.graph.edges.items c.in-Order.order.items =
    subst (λ n. IsForwardOrder (2 * n) c.in_ok-graph.graph.edges.items c.in-Order.order.items) count
    (subst (λ es. IsForwardOrder (2 * c.len-count.result) es c.in-Order.order.items) c.deref.ensures.value
    sorted) in
    let kept : c.in_ok-clusters_in-in-Order.field-0.items ≡ filter (λ k. nat_lt k (length clusters))
    c.in-Order.order.items =
    subst (λ n. c.in_ok-clusters_in-in-Order.field-0.items ≡ filter (λ k. nat_lt k n)
    c.in-Order.order.items) count
    (subst (λ xs. c.in_ok-clusters_in-in-Order.field-0.items ≡ filter (λ k. nat_lt k c.len-count.result) xs)
    c.deref-in-Order.ensures.value c.in_ok-clusters_in-in-Order.ensures) in (
      All-same (λ k. k < length clusters) _ _ kept
          (All-weaker (λ k. nat_lt k (length clusters) ≡ true) (λ k. k < length clusters) (λ k. ltb-true k
          (length clusters)) _
          (filter_passes (λ k. nat_lt k (length clusters)) c.in-Order.order.items)),
      c.in_default.ensures.none,
      order_writes c.args.guarantee c.args.ops.now clusters c.args.table.now.numbers.items c.in_ok-graph.graph
          c.in-Order.order.items _ c.requires.by_call c.requires.table c.in_ok-graph.ensures.graph order kept,
    )

pub steps_of-requires-clause-meets : goal.steps_of-requires-clause-meets
steps_of-requires-clause-meets c = λ a path.
    let w = c.in_ok-graph.ensures.graph in
    let clusters = c.args.table.now.clusters.items in
    let edges = c.in_ok-graph.graph.edges.items in
    let sorted = rw c.in-Cycle.is at c.in_ok-order.ensures in
    let some : 0 < length c.deref-in-Cycle-2.result.now = omega (
      arith,
      sorted.0,
      ap length
          c.deref-in-Cycle-2.ensures.value,
    ) in
    let found = cycle_meets c.args.guarantee c.args.ops.now clusters c.args.table.now.numbers.items w.calls
    c.in_ok-graph.graph c.requires.table w.sound c.deref-in-Cycle-2.result.now some a path in (
      found.0,
      found.1,
      found.2,
      found.3,
      found.4,
      omega (
        arith,
        found.5,
        ap length
            c.deref-in-Cycle.ensures.value,
      ),
    )

pub returns : goal.returns
returns c =
    let w = c.in_ok-graph.ensures.graph in
    let g = c.args.guarantee in
    let ops = c.args.ops.now in
    let numbers = c.args.table.now.numbers.items in
    let same = sym c.deref-in-Cycle.ensures.value in
    let made = c.in_ok-steps-in-Cycle.ensures g ops numbers w.calls c.requires.history c.requires.by_call
    (subst (λ xs. IsClusterTable ops xs numbers) same c.requires.table)
    (subst (λ xs. AreWriteCalls ops xs w.calls) same w.are_calls) c.in_default.ensures.none
    (subst (λ xs. IsLevelGraph g ops xs numbers w.calls c.in_ok-graph.graph) same w.sound) in
    (cycle made.0, made.1, made.2)
