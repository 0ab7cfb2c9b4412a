-- The history with one fail more is the definition's.
use Rattle.std.proofs.Common.{None, Some, arith, refl, subst, sym}
use Rattle.history_model.specs.declared.event.Event.{Event}
use Rattle.history_model.specs.declared.event.What.TheVariants.{Fail}
use Rattle.reg_arena.specs.Lists.EventLists.{IsAlike}
use Rattle.reg_arena.specs.Step.{with_event}
use Rattle.reg_arena.proofs.Step.{appended, event_by, fail-call, fail-next}
use Rattle.reg_arena.proofs.Step.{next-recorded, open-named, taken-room}
use Rattle.reg_arena.proofs.Alike.{fail-alike}
use Rattle.reg_arena.proofs.arena.Arena.add_fail.Goals as goal

pub append-requires-clause-registers : goal.append-requires-clause-registers
append-requires-clause-registers c =
    omega (
      arith,
      open-named c.args.self.now c.requires.taken.recorded c.args.event.now.process c.args.opened
          c.requires.opened,
    )

pub append-requires-clause-room : goal.append-requires-clause-room
append-requires-clause-room c = taken-room c.args.self.now c.args.event.now c.requires.taken

pub append-requires-clause-call : goal.append-requires-clause-call
append-requires-clause-call c =
    let ev : Event =
    event_by c.args.event.now (Some c.args.opened.register)
    (Fail c.args.opened.kind) c.args.opened.value in
    fail-call c.args.self.now.events ev c.args.opened c.args.opened.kind refl refl refl c.requires.opened

pub append-requires-clause-alike : goal.append-requires-clause-alike
append-requires-clause-alike c =
    let ev : Event =
    event_by c.args.event.now (Some c.args.opened.register)
    (Fail c.args.opened.kind) c.args.opened.value in
    subst (IsAlike c.args.self.now.events ev) (sym c.and-alike.ensures)
    (fail-alike c.args.self.now.events c.args.event.now c.args.opened c.requires.opened)

pub append-requires-clause-recorded : goal.append-requires-clause-recorded
append-requires-clause-recorded c =
    let next =
    with_event c.args.self.now None
    (event_by c.args.event.now (Some c.args.opened.register)
    (Fail c.args.opened.kind) c.args.opened.value) in
    next-recorded c.args.self.now next c.args.event.now c.requires.taken
    (fail-next c.args.self.now c.args.event.now c.args.opened c.requires.opened c.requires.fail.0
    c.requires.fail.1)

pub returns : goal.returns
returns c =
    let next =
    with_event c.args.self.now None
    (event_by c.args.event.now (Some c.args.opened.register)
    (Fail c.args.opened.kind) c.args.opened.value) in
    appended c.args.self.now c.append.new.self next c.args.event.now c.append.result c.append.ensures
    (fail-next c.args.self.now c.args.event.now c.args.opened c.requires.opened c.requires.fail.0
    c.requires.fail.1)
