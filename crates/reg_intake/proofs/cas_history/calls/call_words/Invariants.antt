use Rattle.std.proofs.Common.{◌≡◌}
use Rattle.std.specs.Prelude.{map, take}
use Rattle.reg_intake.specs.CasHistory.History.{call_word}
use Rattle.reg_intake.proofs.cas_history.calls.call_words.Given as goal

abbrev pub invariant-loop-event : goal.invariant-loop-event
invariant-loop-event l = record {
  words : l.words.items ≡ map call_word (take l.event-index l.events);
}
