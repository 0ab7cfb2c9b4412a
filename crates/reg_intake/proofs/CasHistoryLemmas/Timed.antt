-- The calls of each register stand in time as those of a history: no event is a call and a reply.
use Rattle.std.proofs.Common.{◌≡◌, ℕ, List, true}
use Rattle.std.specs.Prelude.{is_some}
use Rattle.std.proofs.lemmas.Bool.{false≢true}
use Rattle.history_text.specs.declared.event.AnyEvent.{AnyEvent}
use Rattle.history_text.specs.declared.event.AnyKind.{AnyKind}
use Rattle.history_text.specs.declared.event.AnyKind.TheVariants.{Plain, CallOther, Telling}
use Rattle.history_text.specs.declared.event.Kind.TheVariants.{CallRead, CallWrite, Reply, Fail, Crash}
use Rattle.history_model.specs.Timed.{AreTimedCalls}
use Rattle.history_model.proofs.Timed.{calls-timed}
use Rattle.reg_intake.specs.CasHistory.Events.{called_by, replied_by}
use Rattle.reg_intake.specs.CasHistory.History.{any_calls, calls_of, register_names}

call-or-reply : (k : AnyKind) → is_some (called_by k) ≡ true → is_some (replied_by k) ≡ true → ⊥
call-or-reply (Plain (CallRead name)) c r = false≢true r
call-or-reply (Plain (CallWrite name n)) c r = false≢true r
call-or-reply (Plain (Reply parts)) c r = false≢true c
call-or-reply (Plain (Fail parts)) c r = false≢true c
call-or-reply (Plain Crash) c r = false≢true c
call-or-reply (CallOther name other) c r = false≢true r
call-or-reply (Telling parts told) c r = false≢true c

pub any-calls-timed : (events : List AnyEvent) (r : ℕ) → AreTimedCalls r (calls_of events r)
any-calls-timed events r =
    calls-timed (any_calls (register_names events)) events (λ e. call-or-reply e.kind) r
