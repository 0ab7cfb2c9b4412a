use Rattle.reg_report.specs.Cuts.{HasTasks}
use Rattle.reg_report.specs.Registers.{AreFirstFindings}
use Rattle.reg_report.specs.Pieces.Slots.{AreDoneFrom}
use Rattle.reg_report.proofs.findings.findings.Given as goal

abbrev pub invariant-loop-number : goal.invariant-loop-number
invariant-loop-number l = record {
  findings : AreFirstFindings l.arena l.number l.findings.items;
  done : AreDoneFrom l.next l.arena l.plan.tasks l.pieces;
  tasks : HasTasks l.number l.next l.plan;
}
