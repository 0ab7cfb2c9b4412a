use Rattle.std.proofs.Common.{◌<◌, ◌≤◌, get_or, sym, subst}
use Rattle.history_model.specs.declared.operation.Operation.{Operation}
use Rattle.reg_levels.proofs.ClusterLemmas.Places.{at-below, at-get, at-is, nothing}
use Rattle.reg_levels.proofs.ClusterLemmas.Tables.{early-by, ends-known, not-early}
use Rattle.reg_levels.proofs.clusters.early.early_write.Goals as goal

pub returns-then-read-write : goal.returns-then-read-write
returns-then-read-write c = λ r t.
    let ops = c.args.ops.now in
    let y = c.requires.history in
    let clusters = c.args.table.now.clusters.items in
    let numbers = c.args.table.now.numbers.items in
    let ends = c.in_ok-ends.ends in
    let is = sym c.in_ok-ends.ensures in
    let known = ends-known ops y clusters numbers c.requires.table c.args.place r t ends is in
    let w = get_or ops ends.write nothing in
    let at = at-get ops ends.write (at-below ops ends.write known.0 known.1.at_write) in
    let less = subst (λ (x : Operation). x.reply < w.call) (at-is ops c.args.place r t)
    c.if-read-write.true in
    (w, at, early-by ops y clusters numbers c.requires.table c.args.place r t ends w is at less)

pub returns-else-read-write : goal.returns-else-read-write
returns-else-read-write c = λ r t v k.
    let ops = c.args.ops.now in
    let y = c.requires.history in
    let clusters = c.args.table.now.clusters.items in
    let numbers = c.args.table.now.numbers.items in
    let ends = c.in_ok-ends.ends in
    let is = sym c.in_ok-ends.ensures in
    let known = ends-known ops y clusters numbers c.requires.table c.args.place r t ends is in
    let w = get_or ops ends.write nothing in
    let at = at-get ops ends.write (at-below ops ends.write known.0 known.1.at_write) in
    let least = subst (λ (x : Operation). w.call ≤ x.reply) (at-is ops c.args.place r t)
    c.if-read-write.false in
    not-early ops y clusters numbers c.requires.table c.args.place r t ends w v is at least k
