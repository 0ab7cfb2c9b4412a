use Rattle.std.proofs.Common.{inr, sym, ◌∙◌, arith}
use Rattle.history_model.specs.Operations.{operations}
use Rattle.reg_zones.proofs.Known.{facts}
use Rattle.reg_zones.proofs.Registers.{early-reply, found-name, reply-event}
use Rattle.reg_zones.proofs.fault.replied_at.Goals as goal
use Rattle.history_model.proofs.Recorded.{of_register-In}

pub op_of-requires : goal.op_of-requires
op_of-requires c =
    let a = c.requires in
    let l =
    reply-event c.args.register.arena.now c.args.register.id.0 (facts c.args.register) a.0 a.1 a.2
    (omega (arith, a.3, c.if-time-lt2.false)) in
    omega (arith, l, a.3, c.at.ensures)

pub returns-then-time-lt2 : goal.returns-then-time-lt2
returns-then-time-lt2 c a k d e =
    early-reply c.args.register.arena.now c.args.register.id.0 (facts c.args.register) a k (omega (
      arith,
      e,
      c.if-time-lt2.true,
    ))

pub returns-else-time-lt2 : goal.returns-else-time-lt2
returns-else-time-lt2 c a k d e =
    let j = (of_register-In c.args.register.id.0 (operations c.args.register.arena.now) a k).0 in
    found-name c.args.register.arena.now c.args.register.id.0 (facts c.args.register) c.at.result.0
    c.op_of.result _ c.op_of.ensures a j (inr (d, omega (arith, e, c.if-time-lt2.false, c.at.ensures)))
    ∙ sym c.unwrap_or.ensures
