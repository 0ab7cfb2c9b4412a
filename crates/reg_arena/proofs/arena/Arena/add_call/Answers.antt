-- The history with one call more is the definition's.
use Rattle.std.proofs.Common.{ap, refl, sym, unwrap_or, ◌∙◌}
use Rattle.history_model.specs.declared.event.Event.{Event}
use Rattle.history_model.specs.declared.event.What.TheVariants.{Call}
use Rattle.reg_arena.specs.Step.{with_event}
use Rattle.reg_arena.proofs.Step.{appended, call-next, call-registers, event_by}
use Rattle.reg_arena.proofs.Step.{next-recorded, numbered, own-call, taken-room}
use Rattle.reg_arena.proofs.Alike.{alike-call}
use Rattle.reg_arena.proofs.arena.Arena.add_call.Goals as goal

pub append-requires-clause-registers : goal.append-requires-clause-registers
append-requires-clause-registers c =
    let place = c.unwrap_or.ensures ∙ ap (unwrap_or c.args.number) c.register_count-count.ensures.count in
    call-registers c.args.self.now.names c.args.parts.name.now c.args.number c.in_ok-name.name
    c.unwrap_or.result c.requires.number c.in_ok-name.ensures place

pub append-requires-clause-room : goal.append-requires-clause-room
append-requires-clause-room c = taken-room c.args.self.now c.args.event.now c.requires.taken

pub append-requires-clause-call : goal.append-requires-clause-call
append-requires-clause-call c =
    let ev : Event =
    event_by c.args.event.now (numbered c.unwrap_or.result) (Call c.args.parts.kind) c.args.parts.value in
    own-call c.args.self.now.events ev (record { 0 = c.event_count.result }) c.args.parts.kind refl
    (sym c.event_count.ensures.count)

pub append-requires-clause-alike : goal.append-requires-clause-alike
append-requires-clause-alike c =
    let ev : Event =
    event_by c.args.event.now (numbered c.unwrap_or.result) (Call c.args.parts.kind) c.args.parts.value in
    let place = c.unwrap_or.ensures ∙ ap (unwrap_or c.args.number) c.register_count-count.ensures.count in
    alike-call c.args.self.now c.requires.taken.recorded ev (record { 0 = c.unwrap_or.result }) c.args.number
    c.args.last refl place c.requires.last

pub append-requires-clause-recorded : goal.append-requires-clause-recorded
append-requires-clause-recorded c =
    let h = c.args.self.now in
    let place = c.unwrap_or.ensures ∙ ap (unwrap_or c.args.number) c.register_count-count.ensures.count in
    let next =
    with_event h c.in_ok-name.name
    (event_by c.args.event.now (numbered c.unwrap_or.result)
    (Call c.args.parts.kind) c.args.parts.value) in
    next-recorded h next c.args.event.now c.requires.taken
    (call-next h c.args.event.now (record {
      register = c.args.parts.name.now;
      kind = c.args.parts.kind;
      value =
          c.args.parts.value;
    }) c.args.number c.in_ok-name.name c.unwrap_or.result c.requires.asked
    c.requires.number c.in_ok-name.ensures place)

pub returns : goal.returns
returns c =
    let h = c.args.self.now in
    let place = c.unwrap_or.ensures ∙ ap (unwrap_or c.args.number) c.register_count-count.ensures.count in
    let next =
    with_event h c.in_ok-name.name
    (event_by c.args.event.now (numbered c.unwrap_or.result)
    (Call c.args.parts.kind) c.args.parts.value) in
    appended h c.append.new.self next c.args.event.now c.append.result c.append.ensures
    (call-next h c.args.event.now (record {
      register = c.args.parts.name.now;
      kind = c.args.parts.kind;
      value =
          c.args.parts.value;
    }) c.args.number c.in_ok-name.name c.unwrap_or.result c.requires.asked
    c.requires.number c.in_ok-name.ensures place)
