use Rattle.std.proofs.Common.{sym, subst, ◌≡◌, ◌∙◌}
use Rattle.job_board.specs.declared.limits.TheConstants.{FULL_WEIGHT}
use Rattle.job_board.specs.Steps.{ClosesWith}
use Rattle.job_board.proofs.Closing.{closes}
use Rattle.job_board.proofs.board.Board.close.Goals as goal

pub returns-clause-ok : goal.returns-clause-ok
returns-clause-ok g c =
    let view = c.seat.inside.token.me.0 in
    let all : view.weight ≡ FULL_WEIGHT = sym c.seat.invariant.1 ∙ c.if-not-is_whole.false in
    let n = c.word-least.result in
    subst (λ h. (h.view.weight ≡ FULL_WEIGHT) × ClosesWith c.args.self.jobs h.view n) c.seat.view_is (
      all,
      subst (λ b. ClosesWith b.jobs view n) c.self.view_is
          (closes _ _ view _ _ n all c.close_with-closed.ensures.values.2 c.word-least.ensures),
    )
