use Rattle.std.proofs.Common.{◌≡◌, ℕ, length, subst, arith}
use Rattle.reg_report.specs.Meaning.{IsRegisterReport}
use Rattle.reg_report.specs.Registers.{AreFirstLines}
use Rattle.reg_report.proofs.Found.{found-at, one-line-more}
use Rattle.reg_report.proofs.history.register_reports.Goals as goal

pub register_report-requires : goal.register_report-requires
register_report-requires c =
    (found-at c.args.arena.now c.args.findings.now c.loop-finding.finding-index c.finding-item.result
    c.requires (omega arith) c.finding-item.is).1

pub loop-finding-preserved : goal.loop-finding-preserved
loop-finding-preserved c =
    let h = c.args.arena.now in
    let l = c.loop-finding in
    let found =
    found-at h c.args.findings.now l.finding-index c.finding-item.result c.requires
    (omega arith) c.finding-item.is in
    let reg = c.in_ok-register_report.field-0 in
    rw c.in_ok-push.ensures.items
    (one-line-more h l.regs.items l.finding-index reg l.invariant
    (subst (λ n. IsRegisterReport h n reg) found.0 c.in_ok-register_report.ensures))

pub returns : goal.returns
returns c =
    let h = c.args.arena.now in
    let l = c.loop-finding in
    let all : l.finding-index ≡ length h.names = omega (arith, c.requires.count) in
    subst (λ (n : ℕ). AreFirstLines h n l.regs.items) all l.invariant
