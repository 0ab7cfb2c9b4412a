use Rattle.std.proofs.Common.{◌≡◌, ◌+◌, All}
use Rattle.job_board.proofs.tests.seats_of.Given as goal

abbrev pub invariant-loop-i : goal.invariant-loop-i
invariant-loop-i l = record {
  board : l.rest.board ≡ l.board.id;
  weight : l.rest.view.weight + l.i ≡ l.fn.seat.view.weight + 1;
  seats : All (λ s. s.board ≡ l.board.id) l.seats.items;
}
