use Rattle.std.proofs.Common.{take}
use Rattle.reg_report.specs.ReportText.{IsTextOf}
use Rattle.reg_report.proofs.findings_text.lines_text.Given as goal

abbrev pub invariant-loop-finding : goal.invariant-loop-finding
invariant-loop-finding l = IsTextOf l.arena (take l.finding-index l.findings) l.out.items
