use Rattle.std.proofs.Common.{rules, sym, ◌∙◌}
use Rattle.job_board.proofs.Allowed.{draw_allowed}
use Rattle.job_board.proofs.board.Board.draw.Goals as goal

pub fetch_add-found-requires : goal.fetch_add-found-requires
fetch_add-found-requires g c =
    let seat = c.seat.invariant in
    (search rules, search rules, draw_allowed _ _ _ _ (rw (sym seat.1) seat.3) (sym seat.2 ∙ c.if-seat.false))
