use Rattle.std.proofs.Common.{length, sym, ap, subst, arith}
use Rattle.reg_levels.specs.Clusters.Steps.{AreEnds, AreFromWrites, StandAtWrites}
use Rattle.reg_levels.proofs.ClusterLemmas.Tables.{ends-stand, source-below, table-from}
use Rattle.reg_levels.proofs.clusters.build.table_from.Goals as goal

pub numbered-requires-clause-places : goal.numbered-requires-clause-places
numbered-requires-clause-places c =
    subst StandAtWrites (sym c.deref.ensures.value)
    (ends-stand c.args.ops.now (length c.args.ops.now) c.in_ok-ends.field-0.items c.in_ok-ends.ensures)

pub numbers-requires : goal.numbers-requires
numbers-requires c = λ p q g.
    let ops = c.args.ops.now in
    let below = source-below ops (length ops) c.args.sources.now (omega arith) c.requires.sources p q g in
    let places = c.in_ok-by_write.ensures.places in
    let long = ap length c.deref.ensures.value in
    let one = ap length c.deref-2.ensures.value in
    let all = c.in_ok-ends.ensures.places in
    omega arith

pub returns : goal.returns
returns c =
    let ops = c.args.ops.now in
    let sources = c.args.sources.now in
    let ends = c.deref.result.now in
    let by_write = c.in_ok-by_write.by_write.numbers.items in
    let numbers = c.in_ok-numbers.numbers.items in
    table-from ops c.requires.history sources c.requires.sources ends
    (subst (AreEnds ops (length ops)) (sym c.deref.ensures.value) c.in_ok-ends.ensures)
    c.in_ok-by_write.by_write.clusters.items by_write c.in_ok-by_write.ensures numbers
    (subst (λ xs. AreFromWrites xs sources (length sources) numbers) c.deref-2.ensures.value
    c.in_ok-numbers.ensures)
