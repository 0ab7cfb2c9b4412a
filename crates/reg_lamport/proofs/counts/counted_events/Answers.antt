use Rattle.std.proofs.Common.{◌<◌, ◌≤◌, ◌∙◌, length, option_and_then, option_map, set, ap, arith}
use Rattle.history_model.specs.Walking.{by_register}
use Rattle.history_model.specs.declared.ids.RegId.{RegId}
use Rattle.history_model.proofs.Lists.{slice_get_inside}
use Rattle.history_model.proofs.Named.{event-register}
use Rattle.reg_lamport.specs.Counts.{counted}
use Rattle.reg_lamport.proofs.CountedEvents.{counting-adds, counting-begins, counting-ends}
use Rattle.reg_lamport.proofs.CountedEvents.{counting-room, counting-skips}
use Rattle.reg_lamport.proofs.counts.counted_events.Goals.{in-Some, in_default}
use Rattle.reg_lamport.proofs.counts.counted_events.Goals as goal

pub loop-number-init : goal.loop-number-init
loop-number-init c =
    counting-begins c.args.arena.now c.event_count-number-end.ensures.recorded
    c.in_ok-counts.counts.items c.register_count.result c.in_ok-counts.ensures c.register_count.ensures.count

pub add-requires-clause-within : goal.add-requires-clause-within
add-requires-clause-within c =
    let h = c.args.arena.now in
    let rec = c.event_count-number-end.ensures.recorded in
    let r = c.in-Some.register.0 in
    let own = ap (option_map (λ (k : RegId). k.0)) c.in-Some.is in
    let key = ap (option_and_then by_register) c.event-event.ensures.at ∙ own in
    let within = event-register h rec c.loop-number.number r key in
    omega (arith, within, c.loop-number.invariant.count)

pub add-requires-clause-room : goal.add-requires-clause-room
add-requires-clause-room c =
    λ count q. counting-room c.args.arena.now c.loop-number.number c.loop-number.counts.items
    c.loop-number.invariant (omega (
      arith,
      c.event_count-number-end.ensures.count,
      c.event_count-number-end.ensures.bound,
    )) _ count q

pub loop-number-preserved : goal.loop-number-preserved
loop-number-preserved c =
    let h = c.args.arena.now in
    let rec = c.event_count-number-end.ensures.recorded in
    let n = c.loop-number.number in
    let e = c.event-event.result in
    let at = c.event-event.ensures.at in
    let so_far = c.loop-number.invariant in
    elim c.match-event.branch [
      | in-Some w ↦
          let cs = c.loop-number.counts.items in
          let r = w.in-Some.register.0 in
          let own = ap (option_map (λ (k : RegId). k.0)) w.in-Some.is in
          let key = ap (option_and_then by_register) at ∙ own in
          let named = event-register h rec n r key in
          let within : r < length cs = omega (arith, named, so_far.count) in
          let x = slice_get_inside cs r within in
          let new = w.add.ensures x.0 x.1 ∙ ap (λ b. set cs r (counted b e x.0)) w.begins_write.ensures in
          rw w.counts-is
          (counting-adds h rec n e at cs w.add.new.counts.items r x.0 so_far own x.1 new within)
      | in_default w ↦
          rw w.counts-is
          (counting-skips h rec n e at c.loop-number.counts.items so_far
          (ap (option_map (λ (k : RegId). k.0)) w.in_default.is))
    ]

pub returns : goal.returns
returns c =
    let h = c.args.arena.now in
    let n = c.loop-number.number in
    let over : length h.events ≤ n =
    omega (
      arith,
      c.loop-number.auto.number-end,
      c.loop-number-test.false,
      c.event_count-number-end.ensures.count,
    ) in
    counting-ends h c.event_count-number-end.ensures.recorded n c.loop-number.counts.items over
    c.loop-number.invariant
