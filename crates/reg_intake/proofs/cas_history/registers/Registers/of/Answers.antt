-- One event more: the name of its register, and its operation, if it begins one.
use Rattle.std.proofs.Common.{◌≡◌, ◌+◌, ◌<◌, ◌++◌, ◌∷◌, [], ℕ, Bor, suc, length, take, option_map, refl}
use Rattle.std.proofs.Common.{sym, ap}
use Rattle.std.proofs.Common.{◌∙◌, arith}
use Rattle.std.proofs.lemmas.Option.{slice_get_read}
use Rattle.history_text.specs.declared.event.AnyEvent.{AnyEvent}
use Rattle.history_model.proofs.Accepted.{take-push}
use Rattle.reg_intake.specs.CasHistory.Events.{Called, called_by}
use Rattle.reg_intake.specs.CasHistory.History.{any_calls, calls, number_of, register_names}
use Rattle.reg_intake.specs.CasHistory.Kept.{event_at, operation_at, with_called}
use Rattle.reg_intake.specs.CasHistory.Listed.{listed}
use Rattle.reg_intake.proofs.CasHistoryLemmas.Initials.{number-kept}
use Rattle.reg_intake.proofs.CasHistoryLemmas.Linked.{link-read}
use Rattle.reg_intake.proofs.CasHistoryLemmas.Listed.{at-most-one, calls-step, count-step, left_from}
use Rattle.reg_intake.proofs.CasHistoryLemmas.Listed.{list-step}
use Rattle.reg_intake.proofs.CasHistoryLemmas.Named.{length-with, names-event}
use Rattle.reg_intake.proofs.cas_history.registers.Registers.of.Goals as goal

pub loop-place-preserved : goal.loop-place-preserved
loop-place-preserved c =
    let events = c.args.events.now in
    let next = c.args.next.now in
    let i = c.loop-place.place in
    let n = length events + 2 in
    let event = c.index-events-place.result in
    let old = c.loop-place.registers in
    let new = c.add_event.new.self in
    let so_far = c.loop-place.invariant in
    let at = slice_get_read events _ i event refl (omega arith) c.index-events-place.is in
    let one : suc i ≡ i + 1 = omega arith in
    let more : take i events ++ event ∷ [] ≡ take (i + 1) events =
    sym (take-push events i event at) ∙ ap (λ m. take m events) one in
    let names : new.naming ≡ register_names (take (i + 1) events) =
    c.in_ok-add_event.ensures.names
    ∙ (ap (λ names. with_called names event) so_far.names
    ∙ (sym (names-event (take i events) event) ∙ ap register_names more)) in
    let all = register_names events in
    let number = ap (λ ns. number_of ns (called_by event.kind)) names ∙ number-kept events i event at in
    let adds = c.in_ok-add_event.ensures.adds all number in
    let inside : i < length next = omega (arith, c.requires.linked.count) in
    let linked =
    c.next_event-next.ensures
    ∙ (ap (event_at events) (sym (link-read next i _ inside))
    ∙ sym (c.requires.linked.each all i event at)) in
    let o =
    operation_at (any_calls all) n (i + 2) event
    (option_map (λ (next : ℕ × Bor AnyEvent). (next.0, next.1.now)) c.next_event-next.result) in
    let step =
    calls-step (any_calls all) n events i event at o
    (ap (operation_at (any_calls all) n (i + 2) event) linked) in
    record {
      names = names;
      few =
          omega (
            arith,
            ap length c.in_ok-add_event.ensures.names,
            length-with old.naming (option_map (λ (call : Called). call.register) (called_by event.kind)),
            so_far.few,
          );
      whole = c.in_ok-add_event.ensures.whole;
      each =
          λ r. list-step r (calls events) (listed old.operations.items r) (listed new.operations.items r)
          (left_from events i) (left_from events (i + 1)) o (so_far.each r) step (adds.each r);
      counted = omega (arith, adds.count, at-most-one o, so_far.counted);
      count =
          count-step (length (calls events)) old.count new.count (left_from events i)
          (left_from events (i + 1)) o so_far.count step adds.count;
    }
