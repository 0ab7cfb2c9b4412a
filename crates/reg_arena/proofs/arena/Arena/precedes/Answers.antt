use Rattle.reg_arena.proofs.Precedence.{pending-precedes, replied-precedes}
use Rattle.reg_arena.proofs.arena.Arena.precedes.Goals as goal

pub returns-in-None : goal.returns-in-None
returns-in-None c =
    pending-precedes c.args.self.now c.args.one c.args.other c.op.ensures.0 c.op.ensures.1 c.op.result
    c.op.ensures.2 c.in-None.is

pub returns-in-Some : goal.returns-in-Some
returns-in-Some c =
    replied-precedes c.args.self.now c.args.one c.args.other c.op.ensures.0 c.op.ensures.1 c.op.result
    c.op.ensures.2 c.in-Some.reply c.in-Some.is c.op-in-Some.ensures.0 c.op-in-Some.result
    c.op-in-Some.ensures.1 c.op-in-Some.ensures.2
