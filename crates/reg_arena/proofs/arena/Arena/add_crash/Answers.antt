-- The history with one crash more is the definition's.
use Rattle.std.proofs.Common.{None, refl}
use Rattle.history_model.specs.declared.event.What.TheVariants.{Crash}
use Rattle.reg_arena.specs.Step.{with_event}
use Rattle.reg_arena.proofs.Step.{appended, crash-next, event_by, next-recorded, no-call, taken-room}
use Rattle.reg_arena.proofs.Alike.{alike-none}
use Rattle.reg_arena.proofs.arena.Arena.add_crash.Goals as goal

pub append-requires-clause-room : goal.append-requires-clause-room
append-requires-clause-room c = taken-room c.args.self.now c.args.event.now c.requires.taken

pub append-requires-clause-call : goal.append-requires-clause-call
append-requires-clause-call c =
    no-call c.args.self.now.events (event_by c.args.event.now None Crash None)
    (record { 0 = c.event_count.result }) refl

pub append-requires-clause-alike : goal.append-requires-clause-alike
append-requires-clause-alike c =
    alike-none c.args.self.now.events (event_by c.args.event.now None Crash None) refl

pub append-requires-clause-recorded : goal.append-requires-clause-recorded
append-requires-clause-recorded c =
    let next = with_event c.args.self.now None (event_by c.args.event.now None Crash None) in
    next-recorded c.args.self.now next c.args.event.now c.requires.taken
    (crash-next c.args.self.now c.args.event.now c.requires.crash)

pub returns : goal.returns
returns c =
    let next = with_event c.args.self.now None (event_by c.args.event.now None Crash None) in
    appended c.args.self.now c.append.new.self next c.args.event.now c.append.result c.append.ensures
    (crash-next c.args.self.now c.args.event.now c.requires.crash)
