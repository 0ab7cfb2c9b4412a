use Rattle.std.proofs.Common.{rules, sym}
use Rattle.job_board.proofs.Allowed.{look_allowed}
use Rattle.job_board.proofs.board.Board.look.Goals as goal

pub load-requires : goal.load-requires
load-requires g c =
    let seat = c.seat.invariant in (search rules, search rules, look_allowed _ _ _ _ (rw (sym seat.1) seat.3))
