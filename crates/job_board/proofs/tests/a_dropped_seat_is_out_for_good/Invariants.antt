use Rattle.std.proofs.Common.{◌≡◌}
use Rattle.job_board.proofs.tests.a_dropped_seat_is_out_for_good.Given as goal

abbrev pub invariant-loop : goal.invariant-loop
invariant-loop g l = l.left.seat.board ≡ l.left.board.id
