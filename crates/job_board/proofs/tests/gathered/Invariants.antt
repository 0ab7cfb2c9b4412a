use Rattle.std.proofs.Common.{◌≡◌, All, length}
use Rattle.job_board.proofs.tests.gathered.Given as goal

abbrev pub invariant-loop-seat : goal.invariant-loop-seat
invariant-loop-seat l = record {
  back : All (λ r. r.0.board ≡ l.board.id) l.back.items;
  whole : l.whole.board ≡ l.board.id;
}

abbrev pub decreases-loop-seat : goal.decreases-loop-seat
decreases-loop-seat l = length l.back.items
