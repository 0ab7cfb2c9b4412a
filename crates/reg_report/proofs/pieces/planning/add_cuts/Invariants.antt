use Rattle.std.proofs.Common.{◌-◌}
use Rattle.reg_report.proofs.PieceLemmas.Numbering.{IsCutting}
use Rattle.reg_report.proofs.pieces.planning.add_cuts.Given as goal

abbrev pub invariant-loop-from : goal.invariant-loop-from
invariant-loop-from l = IsCutting l.cut l.register.0 l.len l.from l.initial.tasks.items l.tasks.items

abbrev pub decreases-loop-from : goal.decreases-loop-from
decreases-loop-from l = l.len - l.from
