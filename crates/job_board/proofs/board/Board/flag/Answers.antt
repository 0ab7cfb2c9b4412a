use Rattle.std.proofs.Common.{rules, sym, subst, ◌<◌}
use Rattle.job_board.specs.Numbers.{times}
use Rattle.job_board.proofs.Allowed.{flag_allowed}
use Rattle.job_board.proofs.board.Board.flag.Goals as goal

pub fetch_min-requires : goal.fetch_min-requires
fetch_min-requires g c =
    let seat = c.seat.invariant in (
      search rules,
      search rules,
      flag_allowed _ _ _ _ _ (rw (sym seat.1) seat.3)
          (subst (λ h. 0 < times c.args.job h.view.drawn) (sym c.seat.view_is) c.requires.drawn),
    )
