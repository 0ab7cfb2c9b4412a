use Rattle.std.proofs.Common.{◌≡◌, ◌<◌, ℕ, length, slice_get, Some, arith, sym, ap, subst}
use Rattle.reg_levels.specs.LevelGraph.{InitialReaches, IsLevelGraph, SessionsReach, TimesReach}
use Rattle.reg_levels.proofs.Joining.{extends_twice, graph_none, reaches_extends}
use Rattle.reg_levels.proofs.Numbering.{clusters_few, write_calls_ascend}
use Rattle.reg_levels.proofs.Whole.{whole_reaches}
use Rattle.reg_levels.proofs.deciding.level_graph.Goals as goal

pub add_times-requires-clause-few : goal.add_times-requires-clause-few
add_times-requires-clause-few c =
    let few = clusters_few c.args.ops.now c.args.table.now.clusters.items c.args.table.now.numbers.items
    c.requires.table in
    omega (arith, few, c.requires.few, ap length c.deref-2.ensures.value)

pub add_times-requires-clause-ascending : goal.add_times-requires-clause-ascending
add_times-requires-clause-ascending c =
    subst (λ xs. (j k m n : ℕ) → j < k → slice_get xs j ≡ Some m → slice_get xs k ≡ Some n → m < n)
    (sym c.deref-3.ensures.value)
    (write_calls_ascend c.args.ops.now c.args.table.now.clusters.items c.args.table.now.numbers.items
    c.in_ok-calls.calls.items c.requires.by_call c.requires.table c.in_ok-calls.ensures)

pub returns-clause-few : goal.returns-clause-few
returns-clause-few c =
    let few = clusters_few c.args.ops.now c.args.table.now.clusters.items c.args.table.now.numbers.items
    c.requires.table in
    omega (
      arith,
      few,
      c.in_ok-add_initial.ensures.longer,
      c.in_ok-add_sessions.ensures.longer,
      c.in_ok-add_times.ensures.longer,
      ap length c.new-graph.ensures.edges,
      ap length c.deref-2.ensures.value,
    )

pub returns-clause-graph : goal.returns-clause-graph
returns-clause-graph c =
    let g = c.args.guarantee in
    let ops = c.args.ops.now in
    let clusters = c.args.table.now.clusters.items in
    let numbers = c.args.table.now.numbers.items in
    let calls = c.in_ok-calls.calls.items in
    let last = c.add_times.new.self in
    let begun : IsLevelGraph g ops clusters numbers calls c.add_initial.new.self =
    c.in_ok-add_initial.ensures.graph g calls c.requires.sessions
    (graph_none g ops clusters numbers calls c.new-graph.result c.new-graph.ensures.edges
    c.new-graph.ensures.pairs) in
    let joined : IsLevelGraph g ops clusters numbers calls c.add_sessions.new.self =
    subst (λ xs. IsLevelGraph g ops clusters xs calls c.add_sessions.new.self) c.deref.ensures.value
    (c.in_ok-add_sessions.ensures.graph clusters calls
    (subst (λ xs. IsLevelGraph g ops clusters xs calls c.add_initial.new.self) (sym c.deref.ensures.value)
    begun)) in
    let timed : IsLevelGraph g ops clusters numbers calls last =
    subst (λ xs. IsLevelGraph g ops xs numbers calls last) c.deref-2.ensures.value
    (subst (λ xs. IsLevelGraph g ops c.deref-2.result.now numbers xs last) c.deref-3.ensures.value
    (c.in_ok-add_times.ensures.graph ops numbers
    (subst (λ xs. IsLevelGraph g ops c.deref-2.result.now numbers xs c.add_sessions.new.self) (sym
    c.deref-3.ensures.value)
    (subst (λ xs. IsLevelGraph g ops xs numbers calls c.add_sessions.new.self) (sym c.deref-2.ensures.value)
    joined)))) in
    let on = c.in_ok-add_times.ensures.extends in
    let from_start = extends_twice c.add_initial.new.self.edges.items c.add_sessions.new.self.edges.items
    last.edges.items
    c.in_ok-add_sessions.ensures.extends on in
    let initial : InitialReaches ops numbers (length clusters) last.edges.items =
    λ p x a at none number y l. reaches_extends c.add_initial.new.self.edges.items last.edges.items
    from_start x y
    (c.in_ok-add_initial.ensures.reaches p x a at none number y l) in
    let sessions : SessionsReach g ops numbers (length ops) last.edges.items =
    subst (λ xs. SessionsReach g ops xs (length ops) last.edges.items) c.deref.ensures.value
    (λ q p r x y l m lasting later. reaches_extends c.add_sessions.new.self.edges.items last.edges.items on
    x y
    (c.in_ok-add_sessions.ensures.reaches q p r x y l m lasting later)) in
    record {
      calls = calls;
      are_calls = c.in_ok-calls.ensures;
      sound = timed;
      whole =
          whole_reaches g c.requires.sessions ops clusters numbers calls last.edges.items c.requires.history
          c.requires.by_call c.requires.table c.in_ok-calls.ensures initial sessions
          (λ t. subst (λ xs. TimesReach xs calls last.edges.items) c.deref-2.ensures.value
          (subst (λ xs. TimesReach c.deref-2.result.now xs last.edges.items) c.deref-3.ensures.value
          (c.in_ok-add_times.ensures.reaches t)));
    }
