use Rattle.std.proofs.Common.{◌<◌, arith, sym, subst}
use Rattle.history_model.specs.Walking.{IsOnWalk, walk_left}
use Rattle.history_model.proofs.Walking.{walk-ends, walk-next, walk-within}
use Rattle.reg_zones.proofs.walk.room_for.Goals as goal
use Rattle.reg_zones.proofs.walk.room_for.Goals.{then-begins, else-begins}

pub loop-next-init : goal.loop-next-init
loop-next-init c = record { on = c.requires; bound = omega arith }

pub begins-requires : goal.begins-requires
begins-requires c =
    let es = c.args.register.arena.now.events in
    let r = c.args.register.id.0 in
    walk-within r es c.in-Some.id (subst (IsOnWalk es r) c.in-Some.is c.loop-next.invariant.on)

pub overflow_add-room : goal.overflow_add-room
overflow_add-room c = omega (arith, c.loop-next.invariant.bound)

pub next_in_register-next-requires : goal.next_in_register-next-requires
next_in_register-next-requires c =
    let es = c.args.register.arena.now.events in
    let r = c.args.register.id.0 in
    walk-within r es c.in-Some.id (subst (IsOnWalk es r) c.in-Some.is c.loop-next.invariant.on)

pub loop-next-smaller : goal.loop-next-smaller
loop-next-smaller c =
    let es = c.args.register.arena.now.events in
    let r = c.args.register.id.0 in
    let on = subst (IsOnWalk es r) c.in-Some.is c.loop-next.invariant.on in
    subst (λ o. walk_left es c.next_in_register-next.result < walk_left es o) (sym c.in-Some.is)
    (walk-ends r es c.in-Some.id c.next_in_register-next.result on c.next_in_register-next.ensures.next)

pub loop-next-preserved : goal.loop-next-preserved
loop-next-preserved c =
    let es = c.args.register.arena.now.events in
    let r = c.args.register.id.0 in
    let on = subst (IsOnWalk es r) c.in-Some.is c.loop-next.invariant.on in
    record {
      on = walk-next r es c.in-Some.id c.next_in_register-next.result on c.next_in_register-next.ensures.next;
      bound = elim c.if-begins.branch [
        | then-begins w ↦ omega (arith, w.room-is, c.loop-next.invariant.bound)
        | else-begins w ↦ omega (arith, w.room-is, c.loop-next.invariant.bound)
      ];
    }

pub returns : goal.returns
returns c = omega (arith, c.loop-next.invariant.bound)
