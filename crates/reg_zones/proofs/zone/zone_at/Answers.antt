use Rattle.std.proofs.Common.{sym, subst}
use Rattle.reg_zones.specs.Sweep.{IsZoneFound}
use Rattle.reg_zones.proofs.zone.zone_at.Goals as goal

pub returns-in_err-s : goal.returns-in_err-s
returns-in_err-s c k e =
    let h =
    c.from_residual-in_err-s.ensures in
    subst (IsZoneFound c.args.arena.now k.0 k.1) (sym h) (λ o m d. c.in_err-s.ensures.last k e o m)

pub returns : goal.returns
returns c k e = (c.in_ok-f.ensures.first k e, c.in_ok-s.ensures.last k e)
