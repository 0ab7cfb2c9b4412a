use Rattle.std.proofs.Common.{take}
use Rattle.reg_report.specs.Pieces.Plan.{AreTasks}
use Rattle.reg_report.proofs.pieces.planning.whole_tasks.Given as goal

abbrev pub invariant-loop-number : goal.invariant-loop-number
invariant-loop-number l = AreTasks l.cut 0 (take l.number l.counts) l.tasks.items
