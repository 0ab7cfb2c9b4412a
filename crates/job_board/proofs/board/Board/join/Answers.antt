use Rattle.std.proofs.Common.{rules, sym}
use Rattle.job_board.proofs.Allowed.{join_allowed, count_allowed}
use Rattle.job_board.proofs.board.Board.join.Goals as goal

pub join_seat-requires : goal.join_seat-requires
join_seat-requires g c =
    let seat = c.seat.invariant in
    let other = c.other.invariant in (
      search rules,
      search rules,
      search rules,
      search rules,
      join_allowed _ _ _ _ _ (rw (sym seat.1) seat.3) (rw (sym other.1) other.3),
    )

pub load-requires : goal.load-requires
load-requires g c = (search rules, search rules, count_allowed _ _ _ _)
