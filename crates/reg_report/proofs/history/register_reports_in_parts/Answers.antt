-- The lines, by whatever thread each was made, are those of the findings in order.
use Rattle.std.proofs.Common.{refl}
use Rattle.std.proofs.lemmas.Result.{IfOk-weaker}
use Rattle.parallel.proofs.Callers.{all-given}
use Rattle.reg_report.specs.Meaning.{IsRegisterReport}
use Rattle.reg_report.specs.declared.findings.Finding.{Finding}
use Rattle.report_text.specs.declared.check.report.RegReport.{RegReport}
use Rattle.reg_report.proofs.Found.{each-found, lines-of}
use Rattle.reg_report.proofs.history.register_reports_in_parts.Goals as goal

pub map_each-requires-after_bounds : goal.map_each-requires-after_bounds
map_each-requires-after_bounds g c κs within k d inside finding at =
    each-found c.args.arena.now c.args.findings.now c.args.findings.now k d finding.now c.requires refl
    inside at

pub returns : goal.returns
returns g c =
    let h = c.args.arena.now in
    let findings = c.args.findings.now in
    IfOk-weaker c.map_each.result _ _
    (λ regs made. lines-of h findings regs.items c.requires
    (all-given _ _ (λ (finding : Finding) (reg : RegReport). IsRegisterReport h finding.register.0 reg)
    (λ finding reg is. is) findings regs.items made))
    c.map_each.ensures
