use Rattle.std.proofs.Common.{length, sym, ap, subst, arith}
use Rattle.reg_levels.proofs.ClusterLemmas.Pushes.{get-below}
use Rattle.reg_levels.specs.Gap.Extents.{NoneCollide, IsWidest}
use Rattle.reg_levels.proofs.GapLemmas.Passing.{read-at}
use Rattle.reg_levels.proofs.GapLemmas.Showing.{apart-atomic, cluster-at, end-collides, gap-from}
use Rattle.reg_levels.proofs.GapLemmas.Showing.{number-below}
use Rattle.reg_levels.proofs.GapLemmas.Showing.{write-below}
use Rattle.reg_levels.proofs.gap.answer.gap_of.Goals as goal

pub widest_collision-requires-clause-end : goal.widest_collision-requires-clause-end
widest_collision-requires-clause-end c =
    let ops = c.args.ops.now in
    let clusters = c.args.table.now.clusters.items in
    let xs = c.in_ok-extents.extents.items in
    subst (NoneCollide c.last_call.result) (sym c.deref.ensures.value)
    (end-collides ops c.requires.history c.requires.by_call clusters c.args.table.now.numbers.items
    c.requires.table xs c.in_ok-extents.ensures c.last_call.result c.requires.clean c.last_call.ensures)

pub returns-in_default : goal.returns-in_default
returns-in_default c =
    let clusters = c.args.table.now.clusters.items in
    let xs = c.in_ok-extents.extents.items in
    apart-atomic c.args.ops.now c.requires.history c.requires.by_call clusters c.args.table.now.numbers.items
    c.requires.table xs c.in_ok-extents.ensures c.requires.clean
    (subst (NoneCollide 0) c.deref.ensures.value c.in_default.ensures)

pub index-requires : goal.index-requires
index-requires c =
    let w = c.in-Some.ensures in
    let v = c.deref.ensures.value in
    let l = get-below c.deref.result.now (w.collision).left c.in-Some.widest.first (w.collision).at_left in
    omega (arith, l, ap length v)

pub index-requires-2 : goal.index-requires-2
index-requires-2 c =
    let w = c.in-Some.ensures in
    let v = c.deref.ensures.value in
    let l = get-below c.deref.result.now (w.collision).right c.in-Some.widest.second (w.collision).at_right in
    omega (arith, l, ap length v)

pub index-first-requires : goal.index-first-requires
index-first-requires c =
    let xs = c.in_ok-extents.extents.items in
    let i = c.in-Some.widest.first in
    let x = c.index.result.now in
    let w = subst (λ l. IsWidest l c.in-Some.widest) c.deref.ensures.value c.in-Some.ensures in
    let at = read-at xs i x (w.collision).left (w.collision).at_left c.index.ensures in
    let l =
    number-below c.args.ops.now c.requires.history c.requires.by_call c.args.table.now.clusters.items
    c.args.table.now.numbers.items c.requires.table xs c.in_ok-extents.ensures i x at in
    omega (arith, l)

pub index-second-requires : goal.index-second-requires
index-second-requires c =
    let xs = c.in_ok-extents.extents.items in
    let i = c.in-Some.widest.second in
    let x = c.index-2.result.now in
    let w = subst (λ l. IsWidest l c.in-Some.widest) c.deref.ensures.value c.in-Some.ensures in
    let at = read-at xs i x (w.collision).right (w.collision).at_right c.index-2.ensures in
    let l =
    number-below c.args.ops.now c.requires.history c.requires.by_call c.args.table.now.clusters.items
    c.args.table.now.numbers.items c.requires.table xs c.in_ok-extents.ensures i x at in
    omega (arith, l)

pub shown-requires-clause-first : goal.shown-requires-clause-first
shown-requires-clause-first c =
    let ops = c.args.ops.now in
    let clusters = c.args.table.now.clusters.items in
    let numbers = c.args.table.now.numbers.items in
    let xs = c.in_ok-extents.extents.items in
    let i = c.in-Some.widest.first in
    let x = c.index.result.now in
    let d = c.index-first.result.now in
    let w = subst (λ l. IsWidest l c.in-Some.widest) c.deref.ensures.value c.in-Some.ensures in
    let at = read-at xs i x (w.collision).left (w.collision).at_left c.index.ensures in
    write-below ops c.requires.history c.requires.by_call clusters numbers c.requires.table xs
    c.in_ok-extents.ensures x.cluster d
    (cluster-at ops c.requires.history c.requires.by_call clusters numbers c.requires.table xs
    c.in_ok-extents.ensures i x d at c.index-first.ensures)

pub shown-requires-clause-second : goal.shown-requires-clause-second
shown-requires-clause-second c =
    let ops = c.args.ops.now in
    let clusters = c.args.table.now.clusters.items in
    let numbers = c.args.table.now.numbers.items in
    let xs = c.in_ok-extents.extents.items in
    let i = c.in-Some.widest.second in
    let x = c.index-2.result.now in
    let d = c.index-second.result.now in
    let w = subst (λ l. IsWidest l c.in-Some.widest) c.deref.ensures.value c.in-Some.ensures in
    let at = read-at xs i x (w.collision).right (w.collision).at_right c.index-2.ensures in
    write-below ops c.requires.history c.requires.by_call clusters numbers c.requires.table xs
    c.in_ok-extents.ensures x.cluster d
    (cluster-at ops c.requires.history c.requires.by_call clusters numbers c.requires.table xs
    c.in_ok-extents.ensures i x d at c.index-second.ensures)

pub returns : goal.returns
returns c =
    let ops = c.args.ops.now in
    let y = c.requires.history in
    let up = c.requires.by_call in
    let clusters = c.args.table.now.clusters.items in
    let numbers = c.args.table.now.numbers.items in
    let t = c.requires.table in
    let xs = c.in_ok-extents.extents.items in
    let o = c.in_ok-extents.ensures in
    let widest = c.in-Some.widest in
    let w = subst (λ l. IsWidest l widest) c.deref.ensures.value c.in-Some.ensures in
    let x = c.index.result.now in
    let z = c.index-2.result.now in
    let d = c.index-first.result.now in
    let e = c.index-second.result.now in
    let at_x = read-at xs widest.first x (w.collision).left (w.collision).at_left c.index.ensures in
    let at_z = read-at xs widest.second z (w.collision).right (w.collision).at_right c.index-2.ensures in
    let at_d = cluster-at ops y up clusters numbers t xs o widest.first x d at_x c.index-first.ensures in
    let at_e = cluster-at ops y up clusters numbers t xs o widest.second z e at_z c.index-second.ensures in
    gap-from ops y up clusters numbers t xs o c.requires.clean widest w x z d e at_x at_z at_d at_e
    c.shown.result c.shown.ensures.events c.shown.ensures.shown
