use Rattle.std.proofs.Common.{◌≡◌, All, length}
use Rattle.job_board.proofs.tests.ended.Given as goal

abbrev pub invariant-loop-handle : goal.invariant-loop-handle
invariant-loop-handle g l =
    All (λ h. h.promise.0.now.id ≡ l.board.id) l.handles.items
    × All (λ r. r.0.board ≡ l.board.id) l.back.items

abbrev pub decreases-loop-handle : goal.decreases-loop-handle
decreases-loop-handle g l = length l.handles.items
