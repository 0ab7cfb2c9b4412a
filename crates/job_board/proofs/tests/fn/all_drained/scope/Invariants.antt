use Rattle.std.proofs.Common.{◌≡◌, All, length}
use Rattle.job_board.proofs.tests.fn.all_drained.scope.Given as goal

abbrev pub invariant-loop-seat : goal.invariant-loop-seat
invariant-loop-seat g l =
    All (λ s. s.board ≡ l.board.now.id) l.seats.items
    × All (λ h. h.promise.0.now.id ≡ l.board.now.id) l.handles.items

abbrev pub decreases-loop-seat : goal.decreases-loop-seat
decreases-loop-seat g l = length l.seats.items
