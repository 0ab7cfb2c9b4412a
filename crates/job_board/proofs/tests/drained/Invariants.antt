use Rattle.std.proofs.Common.{◌≡◌}
use Rattle.job_board.proofs.Lacking.{lacking}
use Rattle.job_board.proofs.tests.drained.Given as goal

abbrev pub invariant-loop-job : goal.invariant-loop-job
invariant-loop-job l = l.seat.board ≡ l.board.id

abbrev pub decreases-loop-job : goal.decreases-loop-job
decreases-loop-job l = lacking l.seat.view.jobs l.seat.view.drawn
