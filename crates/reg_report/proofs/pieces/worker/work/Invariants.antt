use Rattle.std.specs.Prelude.{IfSome}
use Rattle.job_board.proofs.Lacking.{lacking}
use Rattle.reg_lamport.specs.Reads.{IsReadList}
use Rattle.reg_report.proofs.PieceLemmas.Working.{IsWorking}
use Rattle.reg_report.proofs.pieces.worker.work.Given as goal

abbrev pub invariant-loop-number : goal.invariant-loop-number
invariant-loop-number g l = record {
  working : IsWorking l.arena l.plan l.fn.seat l.seat l.done.items;
  kept : IfSome l.kept (IsReadList l.arena);
}

abbrev pub decreases-loop-number : goal.decreases-loop-number
decreases-loop-number g l = lacking l.seat.view.jobs l.seat.view.drawn
