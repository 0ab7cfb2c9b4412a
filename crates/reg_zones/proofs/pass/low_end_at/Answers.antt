use Rattle.std.proofs.Common.{sym, subst, ◌+◌, ◌∙◌, arith}
use Rattle.reg_zones.specs.Register.{operations_of}
use Rattle.reg_zones.specs.Sweep.{IsLowEndAt}
use Rattle.reg_zones.proofs.Known.{facts}
use Rattle.reg_zones.proofs.LowEndAt.{no_zone, not_low, not_written, low_here}
use Rattle.reg_zones.proofs.Registers.{event-key, unmet_low_end}
use Rattle.reg_zones.proofs.Walks.{key-within, value-within}
use Rattle.reg_zones.proofs.pass.low_end_at.Goals as goal

pub returns-in_err-valued : goal.returns-in_err-valued
returns-in_err-valued c =
    let none = c.in_err-valued.ensures in
    subst (IsLowEndAt (operations_of c.args.register) (c.args.id.0 + 2)) (sym c.from_residual.ensures)
    (λ w k e. unmet_low_end c.args.register.arena.now c.args.register.id.0 (facts c.args.register) c.args.id.0
    w none k e)

pub zone_at-requires : goal.zone_at-requires
zone_at-requires c =
    let v =
    c.in_ok-valued.ensures in
    value-within c.args.register.arena.now.events c.in_ok-valued.valued.0 _ v.3.2

pub returns-in_err-zone : goal.returns-in_err-zone
returns-in_err-zone c =
    let v = c.in_ok-valued.ensures in
    let none = c.in_err-zone.ensures in
    subst (IsLowEndAt (operations_of c.args.register) (c.args.id.0 + 2))
    (sym c.from_residual-in_err-zone.ensures)
    (no_zone c.args.register.arena.now c.args.register.id.0 (facts c.args.register) c.args.id.0 v.0 v.1 v.2
    v.3.0 v.3.1 (none _ v.3.2))

pub time-requires : goal.time-requires
time-requires c =
    let h = c.args.register.arena.now in
    let r = c.args.register.id.0 in
    let v = c.in_ok-valued.ensures in
    let within =
    key-within h.events c.args.id.0 r (event-key h r (facts c.args.register) c.args.id.0 v.0 v.1 v.2) in
    omega (arith, within, c.event_count-count.ensures.bound)

pub returns-then-low-time : goal.returns-then-low-time
returns-then-low-time c =
    let v = c.in_ok-valued.ensures in
    not_low c.args.register.arena.now c.args.register.id.0 (facts c.args.register) c.args.id.0 v.0 v.1 v.2
    v.3.0 v.3.1 c.in_ok-zone.zone _ (c.in_ok-zone.ensures _ v.3.2) c.low.ensures
    (λ e. c.if-low-time.true (e ∙ sym c.time.ensures))

pub write_of_event-requires : goal.write_of_event-requires
write_of_event-requires c =
    let v =
    c.in_ok-valued.ensures in
    value-within c.args.register.arena.now.events c.in_ok-valued.valued.0 _ v.3.2

pub returns-in_err-write : goal.returns-in_err-write
returns-in_err-write c =
    let v = c.in_ok-valued.ensures in
    let none = c.in_err-write.ensures in
    subst (IsLowEndAt (operations_of c.args.register) (c.args.id.0 + 2))
    (sym c.from_residual-in_err-write.ensures)
    (not_written c.args.register.arena.now c.args.register.id.0 (facts c.args.register) c.args.id.0 v.0 v.1
    v.2 v.3.0 v.3.1 (none.write _ v.3.2))

pub returns : goal.returns
returns c =
    let v = c.in_ok-valued.ensures in
    low_here c.args.register.arena.now c.args.register.id.0 (facts c.args.register) c.args.id.0 v.0 v.1 v.2
    v.3.0 v.3.1 c.in_ok-zone.zone _ _ (c.in_ok-zone.ensures _ v.3.2) c.low.ensures (c.if-low-time.false
    ∙ c.time.ensures) (c.in_ok-write.ensures.write _ v.3.2)
