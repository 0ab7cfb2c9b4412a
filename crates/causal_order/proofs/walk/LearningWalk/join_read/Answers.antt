use Rattle.std.proofs.Common.{length, arith, refl, ap}
use Rattle.causal_order.proofs.Reading.{reading}
use Rattle.causal_order.proofs.walk.LearningWalk.join_read.Goals as goal

pub row-later-requires : goal.row-later-requires
row-later-requires c =
    let r = reading c.args.ops.now c.args.table.now c.args.place c.in-Some.source c.args.self.now
    c.index.result.now c.requires.walk c.index.ensures c.in-Some.is in
    record { held = r.held }

pub bounds-ops-source : goal.bounds-ops-source
bounds-ops-source c =
    let r = reading c.args.ops.now c.args.table.now c.args.place c.in-Some.source c.args.self.now
    c.index.result.now c.requires.walk c.index.ensures c.in-Some.is in
    r.below

pub any_known-requires-clause-few : goal.any_known-requires-clause-few
any_known-requires-clause-few c =
    let r = reading c.args.ops.now c.args.table.now c.args.place c.in-Some.source c.args.self.now
    c.index.result.now c.requires.walk c.index.ensures c.in-Some.is in
    omega (arith, c.requires.sessions, r.entries, ap length c.row-later.ensures)

pub returns-then-is_none-clause-found : goal.returns-then-is_none-clause-found
returns-then-is_none-clause-found c =
    let r = reading c.args.ops.now c.args.table.now c.args.place c.in-Some.source c.args.self.now
    c.index.result.now c.requires.walk c.index.ensures c.in-Some.is in
    r.stale _ c.row-later.result.now c.args.self.now.graph.edges.items c.any_known.result c.if-is_none.ensures
    c.row-later.ensures (c.any_known.ensures c.args.ops.now c.args.table.now r.index)

pub row-earlier-requires : goal.row-earlier-requires
row-earlier-requires c =
    let r = reading c.args.ops.now c.args.table.now c.args.place c.in-Some.source c.args.self.now
    c.index.result.now c.requires.walk c.index.ensures c.in-Some.is in
    record { held = r.source_held _ c.if-is_none.ensures }

pub join_newer-requires-clause-entries : goal.join_newer-requires-clause-entries
join_newer-requires-clause-entries c =
    let r = reading c.args.ops.now c.args.table.now c.args.place c.in-Some.source c.args.self.now
    c.index.result.now c.requires.walk c.index.ensures c.in-Some.is in
    let e = r.source_entries _ c.if-is_none.ensures in
    omega (arith, r.entries, e, ap length c.row-later.ensures, ap length c.row-earlier.ensures)

pub join_newer-requires-clause-few : goal.join_newer-requires-clause-few
join_newer-requires-clause-few c =
    let r = reading c.args.ops.now c.args.table.now c.args.place c.in-Some.source c.args.self.now
    c.index.result.now c.requires.walk c.index.ensures c.in-Some.is in
    omega (arith, c.requires.sessions, r.entries, ap length c.row-later.ensures)

pub returns-clause-graph : goal.returns-clause-graph
returns-clause-graph c =
    let r = reading c.args.ops.now c.args.table.now c.args.place c.in-Some.source c.args.self.now
    c.index.result.now c.requires.walk c.index.ensures c.in-Some.is in
    c.in_ok-join_newer.ensures.graph c.args.ops.now c.args.table.now r.index
    (r.sourced _ _ c.row-earlier.result.now c.row-later.result.now c.if-is_none.ensures refl refl refl
    c.row-earlier.ensures c.row-later.ensures)

pub returns-clause-longer : goal.returns-clause-longer
returns-clause-longer c =
    let r = reading c.args.ops.now c.args.table.now c.args.place c.in-Some.source c.args.self.now
    c.index.result.now c.requires.walk c.index.ensures c.in-Some.is in
    omega (arith, c.in_ok-join_newer.ensures.longer, r.entries, ap length c.row-later.ensures)

pub returns-clause-found : goal.returns-clause-found
returns-clause-found c =
    let r = reading c.args.ops.now c.args.table.now c.args.place c.in-Some.source c.args.self.now
    c.index.result.now c.requires.walk c.index.ensures c.in-Some.is in
    r.settled _ (record { register = _; source = c.in-Some.source; read = c.args.place })
    c.row-earlier.result.now c.row-later.result.now c.join_newer.new.self.edges.items c.if-is_none.ensures
    refl refl
    c.row-earlier.ensures c.row-later.ensures
    (c.in_ok-join_newer.ensures.reached c.args.ops.now c.args.table.now r.index)
