use Rattle.std.proofs.Common.{◌+◌, ◌++◌, sym, ap, subst, ◌∙◌, arith}
use Rattle.history_model.specs.Operations.{register_of}
use Rattle.reg_report.specs.Pieces.Judged.{IsJudged}
use Rattle.reg_zones.specs.Order.{IsOrder}
use Rattle.reg_report.specs.Merged.{AreGathered}
use Rattle.reg_report.proofs.Atomic.{one-gathered-more}
use Rattle.reg_report.proofs.Found.{found-at}
use Rattle.reg_report.proofs.history.orders_of.Goals as goal

pub loop-finding-preserved : goal.loop-finding-preserved
loop-finding-preserved c =
    let h = c.args.arena.now in
    let l = c.loop-finding in
    let found =
    found-at h c.args.findings.now l.finding-index c.finding-item.result c.requires
    (omega arith) c.finding-item.is in
    let judged =
    subst (IsJudged (register_of h c.finding-item.result.register.0)) c.in-Order.is found.1.judged in
    let order = subst (λ n. IsOrder (register_of h n) c.in-Order.order) found.0 judged.1 in
    let items =
    c.in_ok-extend_from_slice-in-Order.ensures.items
    ∙ ap (λ order. l.operations.items ++ order) c.as_slice.ensures in
    subst (AreGathered h (l.finding-index + 1)) (sym items)
    (one-gathered-more h l.finding-index l.operations.items c.in-Order.order l.invariant order)

pub returns-in-Faulty : goal.returns-in-Faulty
returns-in-Faulty c =
    let h = c.args.arena.now in
    let finding = c.finding-item.result in
    let found =
    found-at h c.args.findings.now c.loop-finding.finding-index finding c.requires
    (omega arith) c.finding-item.is in
    let judged = subst (IsJudged (register_of h finding.register.0)) c.in-Faulty.is found.1.judged in
    (finding.register.0, found.1.inside, judged.0)
