-- The history with one reply more is the definition's.
use Rattle.std.proofs.Common.{None, Option, Some, ap, arith, refl, subst, ◌∙◌}
use Rattle.history_text.specs.declared.event.Val.{Val}
use Rattle.history_model.specs.History.{History}
use Rattle.reg_arena.specs.Lists.EventLists.{IsAlike}
use Rattle.reg_arena.specs.Step.{IsOpenCall, with_event}
use Rattle.history_model.specs.declared.ids.EvId.{EvId}
use Rattle.history_model.specs.declared.event.Event.{Event}
use Rattle.history_model.specs.declared.event.What.TheVariants.{Reply}
use Rattle.reg_arena.proofs.Step.{appended, event_by, next-recorded, open-named}
use Rattle.reg_arena.proofs.Step.{open-write, reply-call, reply-next, taken-room}
use Rattle.reg_arena.proofs.Alike.{alike-same}
use Rattle.reg_arena.proofs.arena.Arena.add_reply.Goals as goal
use Rattle.reg_arena.proofs.arena.Arena.add_reply.Goals.{in-ReadOp, in-WriteOp}

pub append-requires-clause-registers : goal.append-requires-clause-registers
append-requires-clause-registers c =
    omega (
      arith,
      open-named c.args.self.now c.requires.taken.recorded c.args.event.now.process c.args.opened
          c.requires.opened,
    )

pub append-requires-clause-room : goal.append-requires-clause-room
append-requires-clause-room c = taken-room c.args.self.now c.args.event.now c.requires.taken

pub append-requires-clause-call : goal.append-requires-clause-call
append-requires-clause-call c =
    let ev : Event =
    event_by c.args.event.now (Some c.args.opened.register)
    (Reply c.args.opened.kind) c.match-opened.value.0 in
    reply-call c.args.self.now.events ev c.args.opened c.args.opened.kind refl c.requires.opened

pub append-requires-clause-alike : goal.append-requires-clause-alike
append-requires-clause-alike c =
    let here = c.requires.opened in
    let r = c.requires.taken.recorded in
    let o = subst (λ (h : History). IsOpenCall h.events c.args.event.now.process c.args.opened) r.is here in
    elim c.match-opened.branch [
      | in-ReadOp w ↦
          let ev : Event =
          event_by c.args.event.now (Some c.args.opened.register)
          (Reply c.args.opened.kind) c.args.parts.now.value in
          rw w.value-is (subst (λ (h : History). IsAlike h.events ev w.alike.result) c.self.view_is
          (w.alike.ensures ev refl refl))
      | in-WriteOp w ↦
          let v = open-write r.events r.accepted c.args.event.now c.args.opened o w.in-WriteOp.is in
          let ev : Event =
          event_by c.args.event.now (Some c.args.opened.register)
          (Reply c.args.opened.kind) c.args.opened.value in
          rw w.value-is (alike-same c.args.self.now.events ev here.event c.args.opened.call
          c.args.opened.register v.0 here.there here.register (here.value ∙ v.1) refl v.1)
    ]

pub append-requires-clause-recorded : goal.append-requires-clause-recorded
append-requires-clause-recorded c =
    let next =
    with_event c.args.self.now None
    (event_by c.args.event.now (Some c.args.opened.register)
    (Reply c.args.opened.kind) c.match-opened.value.0) in
    next-recorded c.args.self.now next c.args.event.now c.requires.taken
    (reply-next c.args.self.now c.args.event.now c.args.opened c.requires.opened c.args.parts.now
    c.requires.reply c.match-opened.value.0
    (elim c.match-opened.branch [
      | in-ReadOp w ↦ λ _. ap (λ (z : Option Val × Option EvId). z.0) w.value-is
      | in-WriteOp w ↦ λ k. absurd (let x = w.in-WriteOp.is in cc (k, x))
    ])
    (elim c.match-opened.branch [
      | in-ReadOp w ↦ λ k. absurd (let x = w.in-ReadOp.is in cc (k, x))
      | in-WriteOp w ↦ λ _. ap (λ (z : Option Val × Option EvId). z.0) w.value-is
    ]))

pub returns : goal.returns
returns c =
    let next =
    with_event c.args.self.now None
    (event_by c.args.event.now (Some c.args.opened.register)
    (Reply c.args.opened.kind) c.match-opened.value.0) in
    appended c.args.self.now c.append.new.self next c.args.event.now c.append.result c.append.ensures
    (reply-next c.args.self.now c.args.event.now c.args.opened c.requires.opened c.args.parts.now
    c.requires.reply c.match-opened.value.0
    (elim c.match-opened.branch [
      | in-ReadOp w ↦ λ _. ap (λ (z : Option Val × Option EvId). z.0) w.value-is
      | in-WriteOp w ↦ λ k. absurd (let x = w.in-WriteOp.is in cc (k, x))
    ])
    (elim c.match-opened.branch [
      | in-ReadOp w ↦ λ k. absurd (let x = w.in-ReadOp.is in cc (k, x))
      | in-WriteOp w ↦ λ _. ap (λ (z : Option Val × Option EvId). z.0) w.value-is
    ]))
