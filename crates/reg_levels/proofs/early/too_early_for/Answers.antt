use Rattle.std.proofs.Common.{◌≡◌, true, get_or, arith, sym, ap, ◌∙◌, subst}
use Rattle.history_model.specs.Legal.{MustKeep}
use Rattle.history_model.specs.Operations.{IsWrite, is_write}
use Rattle.history_model.specs.declared.operation.Operation.{Operation}
use Rattle.level_laws.specs.Leads.{IsTooEarly}
use Rattle.reg_levels.proofs.OrderGraphLemmas.Places.{place-same}
use Rattle.reg_levels.proofs.ClusterLemmas.Places.{at-In, at-below, at-get, nothing}
use Rattle.reg_levels.proofs.InTime.{cluster_read, early_in, number_read, read_called, too_early_read}
use Rattle.reg_levels.proofs.InTime.{write_read}
use Rattle.reg_levels.proofs.early.too_early_for.Goals as goal

pub index-requires-2 : goal.index-requires-2
index-requires-2 c =
    let below = number_read c.args.ops.now c.args.table.now.clusters.items c.args.table.now.numbers.items
    c.requires.table
    c.args.place c.in_ok-number.number c.index.result.now c.requires.within c.index.ensures
    c.in_ok-number.was in
    omega (arith, below, c.args.table.now.clusters.ok.0)

pub returns-then-changes-clause-none : goal.returns-then-changes-clause-none
returns-then-changes-clause-none c = λ r w at early.
    let same : r ≡ get_or c.args.ops.now c.args.place nothing =
    place-same c.args.ops.now c.args.place r _ at (at-get c.args.ops.now c.args.place c.requires.within) in
    let writes : is_write r ≡ true = ap is_write same ∙ (sym c.changes.ensures ∙ c.if-changes.true) in
    absurd (let z = sym early.read.read ∙ writes in cc z)

pub bounds-ops-write : goal.bounds-ops-write
bounds-ops-write c =
    let h = cluster_read c.args.ops.now c.args.table.now.clusters.items c.args.table.now.numbers.items
    c.requires.table
    c.args.place c.in_ok-number.number c.index.result.now c.index-2.result.now c.requires.within
    c.index.ensures
    c.in_ok-number.was c.index-2.ensures in
    at-below c.args.ops.now c.index-2.result.now.write h.write h.ends.at_write

pub is_too_early-requires-clause-write : goal.is_too_early-requires-clause-write
is_too_early-requires-clause-write c =
    let h = cluster_read c.args.ops.now c.args.table.now.clusters.items c.args.table.now.numbers.items
    c.requires.table
    c.args.place c.in_ok-number.number c.index.result.now c.index-2.result.now c.requires.within
    c.index.ensures
    c.in_ok-number.was c.index-2.ensures in
    subst IsWrite (sym (write_read _ _ _ _ _ h)) h.ends.kept.write

pub is_too_early-requires-clause-called : goal.is_too_early-requires-clause-called
is_too_early-requires-clause-called c =
    read_called c.args.ops.now c.requires.history (get_or c.args.ops.now c.args.place nothing) c.args.place
    (at-get c.args.ops.now c.args.place c.requires.within) (sym c.changes.ensures ∙ c.if-changes.false)

pub is_too_early-requires-clause-life : goal.is_too_early-requires-clause-life
is_too_early-requires-clause-life c =
    c.requires.history.life (get_or c.args.ops.now c.args.place nothing)
    (at-In c.args.ops.now c.args.place _ (at-get c.args.ops.now c.args.place c.requires.within))

pub returns-then-is_too_early-clause-some : goal.returns-then-is_too_early-clause-some
returns-then-is_too_early-clause-some c =
    let h = cluster_read c.args.ops.now c.args.table.now.clusters.items c.args.table.now.numbers.items
    c.requires.table
    c.args.place c.in_ok-number.number c.index.result.now c.index-2.result.now c.requires.within
    c.index.ensures
    c.in_ok-number.was c.index-2.ensures in (
      get_or c.args.ops.now c.args.place nothing,
      h.write,
      at-get c.args.ops.now c.args.place c.requires.within,
      h.ends.at_write,
      too_early_read c.args.ops.now c.args.table.now.clusters.items c.in_ok-number.number _
          c.index-2.result.now h
          (sym c.changes.ensures ∙ c.if-changes.false) c.args.guarantee
          (subst (MustKeep c.args.guarantee (get_or c.args.ops.now c.args.place nothing)) (write_read _ _ _
          _ _ h)
          (c.is_too_early.ensures.yes c.if-is_too_early.true)),
    )

pub returns-else-is_too_early-clause-none : goal.returns-else-is_too_early-clause-none
returns-else-is_too_early-clause-none c = λ r w at early.
    let h = cluster_read c.args.ops.now c.args.table.now.clusters.items c.args.table.now.numbers.items
    c.requires.table
    c.args.place c.in_ok-number.number c.index.result.now c.index-2.result.now c.requires.within
    c.index.ensures
    c.in_ok-number.was c.index-2.ensures in
    let same : r ≡ get_or c.args.ops.now c.args.place nothing =
    place-same c.args.ops.now c.args.place r _ at (at-get c.args.ops.now c.args.place c.requires.within) in
    let of : h.write ≡ w =
    early_in c.args.ops.now c.requires.history c.args.guarantee c.args.table.now.clusters.items
    c.in_ok-number.number
    (get_or c.args.ops.now c.args.place nothing) w c.index-2.result.now
    (subst (λ (x : Operation). IsTooEarly c.args.guarantee c.args.ops.now x w) same early) h in
    c.is_too_early.ensures.no c.if-is_too_early.false
    (subst (MustKeep c.args.guarantee (get_or c.args.ops.now c.args.place nothing)) (sym (write_read _ _ _ _
    _ h ∙ of))
    (subst (λ (x : Operation). MustKeep c.args.guarantee x w) same early.must))
