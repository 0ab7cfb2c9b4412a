use Rattle.reg_report.specs.Registers.{AreFirstLines}
use Rattle.reg_report.proofs.history.register_reports.Given as goal

abbrev pub invariant-loop-finding : goal.invariant-loop-finding
invariant-loop-finding l = AreFirstLines l.arena l.finding-index l.regs.items
