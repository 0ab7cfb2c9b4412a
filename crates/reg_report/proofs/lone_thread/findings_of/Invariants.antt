use Rattle.reg_report.specs.Registers.{AreFirstFindings}
use Rattle.reg_report.proofs.lone_thread.findings_of.Given as goal

abbrev pub invariant-loop-number : goal.invariant-loop-number
invariant-loop-number l = AreFirstFindings l.arena l.number l.findings.items
