-- Each word of an event.
use Rattle.std.proofs.Common.{sym, subst}
use Rattle.history_text.specs.declared.event.EventWord.TheVariants as word
use Rattle.history_text.specs.Flat.{Scalar, event_data}
use Rattle.history_text.proofs.Lexed.{call_word, reply_word, fail_word, crash_word}
use Rattle.history_text.proofs.flat_members.event.Goals as goal

pub returns-in-Some : goal.returns-in-Some
returns-in-Some c =
    subst (λ t. Scalar t (event_data word.Call) c.in-Some.rest.now) (sym c.in-Some.ensures)
    (call_word c.in-Some.rest.now)

pub returns-in-Some-after : goal.returns-in-Some-after
returns-in-Some-after c =
    subst (λ t. Scalar t (event_data word.Reply) c.in-Some-after.rest.now) (sym c.in-Some-after.ensures)
    (reply_word c.in-Some-after.rest.now)

pub returns-in-Some-after-2 : goal.returns-in-Some-after-2
returns-in-Some-after-2 c =
    subst (λ t. Scalar t (event_data word.Fail) c.in-Some-after-2.rest.now) (sym c.in-Some-after-2.ensures)
    (fail_word c.in-Some-after-2.rest.now)

pub returns : goal.returns
returns c =
    subst (λ t. Scalar t (event_data word.Crash) c.in_ok-rest.rest.now) (sym c.in_ok-rest.ensures)
    (crash_word c.in_ok-rest.rest.now)
