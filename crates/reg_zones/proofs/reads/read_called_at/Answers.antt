use Rattle.std.proofs.Common.{subst}
use Rattle.reg_zones.specs.Sweep.{IsMetAt}
use Rattle.reg_zones.proofs.Known.{facts}
use Rattle.reg_zones.proofs.CalledReads.{not_write, not_pending, not_empty}
use Rattle.reg_zones.proofs.MetEvents.{no-call}
use Rattle.reg_zones.proofs.reads.read_called_at.Goals as goal

pub returns-in_default : goal.returns-in_default
returns-in_default c a k d e =
    no-call c.args.register.arena.now c.args.register.id.0 (facts c.args.register) c.args.id.0 c.args.met
    c.in_default.not-Call c.requires a k e

pub returns-in_default-2 : goal.returns-in_default-2
returns-in_default-2 c a k d e =
    let o =
    subst (IsMetAt c.args.register.arena.now c.args.register.id.0 c.args.id.0) c.in-Call.is c.requires in
    not_empty c.args.register.arena.now c.args.register.id.0 (facts c.args.register) c.args.id.0 o.0 _ o.1 a k
    d e c.in_default-2.is-2

pub returns-in_default-2-2 : goal.returns-in_default-2-2
returns-in_default-2-2 c a k d e =
    let o =
    subst (IsMetAt c.args.register.arena.now c.args.register.id.0 c.args.id.0) c.in-Call.is c.requires in
    not_pending c.args.register.arena.now c.args.register.id.0 (facts c.args.register) c.args.id.0 o.0 _ o.1 a
    k d e c.in_default-2.is-1

pub returns-in_default-2-3 : goal.returns-in_default-2-3
returns-in_default-2-3 c a k d e =
    let o =
    subst (IsMetAt c.args.register.arena.now c.args.register.id.0 c.args.id.0) c.in-Call.is c.requires in
    not_write c.args.register.arena.now c.args.register.id.0 (facts c.args.register) c.args.id.0 o.0 _ o.1 a k
    d e c.in_default-2.is-0
