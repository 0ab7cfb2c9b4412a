use Rattle.std.proofs.Common.{rules, sym}
use Rattle.job_board.proofs.Allowed.{split_allowed}
use Rattle.job_board.proofs.board.Board.split_token.Goals as goal

pub split_seat-requires : goal.split_seat-requires
split_seat-requires g c =
    let part = c.requires.part in
    (search rules, search rules, split_allowed _ _ _ _ (rw (sym part.0) part.1) (rw (sym part.0) part.2))
