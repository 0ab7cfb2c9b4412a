use Rattle.std.proofs.Common.{◌∙◌, ap, map, subst, sym}
use Rattle.std.proofs.lemmas.Result.{IfOk-weaker}
use Rattle.history_model.specs.declared.guarantee.Guarantee.TheVariants as guarantee
use Rattle.level_report.specs.Ordered.{KeepsOrder}
use Rattle.level_report.specs.declared.sooner.LowEnd.{LowEnd}
use Rattle.level_report.proofs.ByLowEnds.{by-low-ends}
use Rattle.level_report.proofs.sooner.atomic_order.Goals as goal

pub returns : goal.returns
returns c =
    let ops = c.args.ops.now in
    let clusters = c.args.table.now.clusters.items in
    IfOk-weaker c.numbers_of.result _ _ (λ order is.
    subst (KeepsOrder guarantee.Atomic ops clusters)
    (sym (is ∙ ap (map (λ (x : LowEnd). x.cluster)) c.deref.ensures.value))
    (by-low-ends ops c.requires.history c.requires.by_call c.requires.atomic clusters
    c.args.table.now.numbers.items c.requires.table c.in_ok-ends.ends.items c.sort.new.ends.items
    c.in_ok-ends.ensures c.sort.ensures.permutation c.sort.ensures.rising))
    c.numbers_of.ensures
