use Rattle.std.proofs.Common.{◌-◌, length}
use Rattle.history_model.specs.Lamport.{completed_reads}
use Rattle.history_model.specs.Operations.{register_of}
use Rattle.reg_report.proofs.Cutting.{IsPutTogether}
use Rattle.reg_report.proofs.levels.first_bad_of.Given as goal

abbrev pub invariant-loop-first : goal.invariant-loop-first
invariant-loop-first l =
    IsPutTogether l.arena l.plan.tasks l.fn.register.0
    (length (completed_reads (register_of l.arena l.fn.register.0))) l.start l.next l.first l.pieces

abbrev pub decreases-loop-first : goal.decreases-loop-first
decreases-loop-first l = length l.plan.tasks - l.next
