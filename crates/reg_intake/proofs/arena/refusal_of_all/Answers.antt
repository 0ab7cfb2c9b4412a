-- A refusal that may be another one is so if the rest can't be pulled.
use Rattle.reg_intake.proofs.Refusing.{may-not-change, may-change, refused-after-rest}
use Rattle.reg_intake.proofs.Refusing.{refused-in-rest, refused-now}
use Rattle.reg_intake.proofs.arena.refusal_of_all.Goals as goal

pub returns-in-TooLong : goal.returns-in-TooLong
returns-in-TooLong g c =
    λ left failed stopped. refused-now left _ failed _ _ c.args.first
    (may-not-change c.args.first c.in-TooLong.is) stopped

pub returns-in-Ok : goal.returns-in-Ok
returns-in-Ok g c = λ left failed stopped.
    let rest = c.in-Ok.ensures.ok in
    refused-after-rest left _ _ failed _ _ _ _ rest.0 c.args.first
    (may-change c.args.first c.in-At.is) stopped rest.1 c.in-Ok.ensures.end

pub returns-in-Err : goal.returns-in-Err
returns-in-Err g c =
    λ left failed stopped. refused-in-rest left _ _ failed _ _ _ c.args.first c.in-Err.refusal
    (may-change c.args.first c.in-At.is) stopped c.in-Err.ensures.err
