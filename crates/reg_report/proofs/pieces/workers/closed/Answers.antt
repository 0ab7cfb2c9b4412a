use Rattle.std.proofs.Common.{ap, sym, subst, arith}
use Rattle.job_board.specs.Numbers.{times_below}
use Rattle.job_board.proofs.Times.{once_low}
use Rattle.reg_report.specs.Pieces.Workers.{ClosesWhole}
use Rattle.reg_report.proofs.pieces.workers.closed.Goals as goal

pub returns-in-Ok : goal.returns-in-Ok
returns-in-Ok c =
    let closes = c.in-Ok.ensures.ok.1 in
    let drawn = closes.drawn in
    subst (λ whole. ClosesWhole c.args.board.jobs whole c.in-Ok.least) (sym c.in-Some.is) (
      λ exhausted n l. let all = ap (times_below n) (drawn.3 exhausted) in
          omega (arith, drawn.2 n, all, once_low n c.args.board.jobs l),
      closes,
    )
