use Rattle.std.proofs.Common.{◌≡◌, ℕ, length, ap, subst, arith}
use Rattle.history_model.specs.declared.ids.RegId.{RegId}
use Rattle.reg_report.specs.Registers.{AreFirstFindings}
use Rattle.reg_report.proofs.Found.{one-finding-more}
use Rattle.reg_report.proofs.lone_thread.findings_of.Goals as goal

pub loop-number-preserved : goal.loop-number-preserved
loop-number-preserved c =
    let h = c.args.arena.now in
    let l = c.loop-number in
    let found = c.in_ok-finding_of.ensures in
    rw c.in_ok-push.ensures.items
    (one-finding-more h l.number l.findings.items c.in_ok-finding_of.field-0 l.invariant
    (ap (λ (r : RegId). r.0) found.register) found.finding)

pub returns : goal.returns
returns c =
    let h = c.args.arena.now in
    let l = c.loop-number in
    let whole : l.number ≡ length h.names =
    omega (arith, l.auto.number-end, c.loop-number-test.false, c.register_count-count.ensures.count) in
    subst (λ (n : ℕ). AreFirstFindings h n l.findings.items) whole l.invariant
