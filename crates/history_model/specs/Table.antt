-- The table of refusals, which all programs share: when an event is refused, and for which reason (the
-- format's own rules; docs/format.md has the table of numbers). Of what went before, the last event of the
-- event's process counts, and how many events there were; where values are distinct, what was written counts
-- too.
use Rattle.std.specs.Prelude.{◌≡◌, ℕ, ◌<◌, ◌==◌, ◌&&◌, List, [], ◌∷◌, ◌++◌, length, map, take, slice_get}
use Rattle.std.specs.Prelude.{filter_map, Bool, cond, nat_le, not, is_none, is_some}
use Rattle.std.specs.Prelude.{Option, Some, None, option_map, option_and_then, Result, Ok, Err}
use Rattle.std.specs.Option.{option_or}
use Rattle.std.specs.Result.{result_ok}
use Rattle.history_text.specs.Faults.{fault_number}
use Rattle.history_text.specs.declared.limits.TheConstants.{MAX_EVENTS}
use Rattle.history_text.specs.declared.event.ReplyParts.{ReplyParts}
use Rattle.history_text.specs.declared.fault.LineFault.{LineFault}
use Rattle.history_model.specs.Lists.{last_with}
use Rattle.history_model.specs.declared.refusal.LineRefusal.{LineRefusal}
use Rattle.history_model.specs.declared.refusal.Reason.{Reason}
use Rattle.history_model.specs.declared.refusal.Reason.TheVariants.{Faulty, OpenCall, NoOpenCall}
use Rattle.history_model.specs.declared.refusal.Reason.TheVariants.{WrittenBefore}
use Rattle.history_model.specs.declared.refusal.Reason.TheVariants.{Disagreement, NoValue, TooMany}
use Rattle.history_model.specs.declared.refusal.Reason.TheVariants.{AfterCrash, NoOk, BadTold}
use Rattle.history_model.specs.declared.refusal.BuildError.{BuildError}
use Rattle.history_model.specs.declared.refusal.BuildError.TheVariants.{Refused, Memory}

-- the number of a reason
abbrev pub reason_number : Reason → ℕ
reason_number (Faulty kind) = fault_number kind
reason_number (OpenCall line) = 9
reason_number NoOpenCall = 10
reason_number Disagreement = 11
reason_number NoValue = 12
reason_number (WrittenBefore line) = 13
reason_number TooMany = 14
reason_number (AfterCrash line) = 19
reason_number NoOk = 21
reason_number BadTold = 22

-- the other line that a reason names
abbrev pub reason_other : Reason → Option ℕ
reason_other (Faulty kind) = None
reason_other (OpenCall line) = Some line
reason_other NoOpenCall = None
reason_other Disagreement = None
reason_other NoValue = None
reason_other (WrittenBefore line) = Some line
reason_other TooMany = None
reason_other (AfterCrash line) = Some line
reason_other NoOk = None
reason_other BadTold = None

-- How a program reads its events: what a call asks for, what a reply or a fail says, and which is a crash.
pub record Form (Event Asked : Type 0) : Type 0 where
  pub line : Event → ℕ
  pub process : Event → ℕ
  pub asked_by : Event → Option Asked
  pub replied_by : Event → Option ReplyParts
  pub failed_by : Event → Option ReplyParts
  pub is_crash : Event → Bool

-- the last event of process p after some events
abbrev pub last_event : {Event Asked : Type 0} → Form Event Asked → List Event → ℕ → Option Event
last_event form before p = last_with (λ e. form.process e == p) before

-- the event, if it is a call: the last one of its process then is its open call
abbrev pub open_call : {Event Asked : Type 0} → Form Event Asked → Option Event → Option Event
open_call form last = option_and_then (λ e. cond (is_some (form.asked_by e)) (Some e) None) last

-- what the open call asks for
abbrev pub open_asked : {Event Asked : Type 0} → Form Event Asked → Option Event → Option Asked
open_asked form last = option_and_then form.asked_by (open_call form last)

-- the event, if it is a crash
abbrev pub crashed : {Event Asked : Type 0} → Form Event Asked → Option Event → Option Event
crashed form last = option_and_then (λ e. cond (form.is_crash e) (Some e) None) last

-- what a reply or a fail says of the call that it ends
abbrev pub ended_by : {Event Asked : Type 0} → Form Event Asked → Event → Option ReplyParts
ended_by form e = option_or (form.replied_by e) (form.failed_by e)

-- The rules of a program: when a reply or a fail agrees with its call, when the reply to a read has no
-- value, what else refuses a reply, and what refuses a value that was written before.
pub record Rules (Event Asked : Type 0) : Type 0 where
  pub form : Form Event Asked
  pub reply_agrees : Asked → ReplyParts → Bool
  pub fail_agrees : Asked → ReplyParts → Bool
  pub is_without_value : Event → Asked → ReplyParts → Bool
  pub faults_of_replies : List (Reason × (Event → Asked → ReplyParts → Bool))
  pub repeats : List Event → Event → List (Option LineRefusal)

-- a line that isn't blank: its event, or its own fault
abbrev pub Line : Type 0 → Type 0
Line Event = Result Event LineFault

abbrev pub events_of : {Event : Type 0} → List (Line Event) → List Event
events_of lines = filter_map result_ok lines

abbrev pub first_some : {A : Type 0} → List (Option A) → Option A
first_some [] = None
first_some (o ∷ os) = option_or o (first_some os)

module _ {Event Asked : Type 0} (rules : Rules Event Asked) where
  abbrev pub refused : Event → Reason → LineRefusal
  refused e reason = record { line = rules.form.line e; reason = reason }

  -- ---- each reason by itself: of an event e whose process had this event last

  -- 9: a call while its process has an open call
  abbrev pub call_while_open : Option Event → Event → Option LineRefusal
  call_while_open last e =
      option_and_then
      (λ _. option_map (λ call. refused e (OpenCall (rules.form.line call))) (open_call rules.form last))
      (rules.form.asked_by e)

  -- 10: a reply or a fail without an open call; after a crash there is another reason
  abbrev pub end_without_call : Option Event → Event → Option LineRefusal
  end_without_call last e =
      option_and_then
      (λ _. cond (is_none (open_call rules.form last) && is_none (crashed rules.form last))
      (Some (refused e NoOpenCall)) None) (ended_by rules.form e)

  -- what is said of an open call fails a test
  abbrev pub failing : (Asked → ReplyParts → Bool) → Reason → Option Event → Event → Option ReplyParts
      → Option LineRefusal
  failing fails reason last e said =
      option_and_then (λ parts. option_and_then (λ call. cond (fails call parts)
      (Some (refused e reason)) None)
      (open_asked rules.form last)) said

  -- 14: too many events before it
  abbrev pub too_many : ℕ → Event → Option LineRefusal
  too_many count e = cond (nat_le MAX_EVENTS count) (Some (refused e TooMany)) None

  -- 19: an event of a process that crashed
  abbrev pub after_crash : Option Event → Event → Option LineRefusal
  after_crash last e =
      option_map (λ crash. refused e (AfterCrash (rules.form.line crash))) (crashed rules.form last)

  -- ---- the refusal of an event, and of a line

  -- the reasons that are left of any event, 14 and 19
  abbrev pub late_refusal : ℕ → Option Event → Event → Option LineRefusal
  late_refusal count last e = option_or (too_many count e) (after_crash last e)

  -- 21 and 22: what else refuses a reply
  abbrev pub fault_of_reply : Option Event → Event → Reason × (Event → Asked → ReplyParts → Bool)
      → Option LineRefusal
  fault_of_reply last e fault = failing (fault.1 e) fault.0 last e (rules.form.replied_by e)

  -- of the reasons that apply to an event after this many others, of which this is its process's last, the
  -- lowest-numbered; the last argument has what 13 says, where values are distinct
  abbrev pub refusal_after : ℕ → Option Event → Event → List (Option LineRefusal) → Option LineRefusal
  refusal_after count last e repeats =
      first_some (call_while_open last e ∷ end_without_call last e
      -- 11: a reply or a fail that doesn't agree with its call
      ∷ failing (λ call reply. not (rules.reply_agrees call reply)) Disagreement last e
      (rules.form.replied_by e)
      ∷ failing (λ call fail. not (rules.fail_agrees call fail)) Disagreement last e (rules.form.failed_by e)
      -- 12: a read's reply without a value
      ∷ failing (rules.is_without_value e) NoValue last e (rules.form.replied_by e)
      ∷ repeats ++ late_refusal count last e ∷ map (fault_of_reply last e) rules.faults_of_replies)

  -- the refusal of an event after others
  abbrev pub event_refusal : List Event → Event → Option LineRefusal
  event_refusal before e =
      refusal_after (length before) (last_event rules.form before (rules.form.process e)) e
      (rules.repeats before e)

  -- of a line: its own fault, or its event's refusal after the events of the lines before it
  abbrev pub line_refusal : List (Line Event) → Line Event → Option LineRefusal
  line_refusal before (Err fault) = Some (record { line = fault.line; reason = Faulty fault.kind })
  line_refusal before (Ok e) = event_refusal (events_of before) e

  abbrev pub refusal_at : List (Line Event) → ℕ → Option LineRefusal
  refusal_at lines i = option_and_then (line_refusal (take i lines)) (slice_get lines i)

  -- the history is refused for the first faulty line
  pub record IsRefusal (lines : List (Line Event)) (r : LineRefusal) : Type 0 where
    pub place : ℕ
    pub there : refusal_at lines place ≡ Some r
    pub least : (i : ℕ) → i < place → refusal_at lines i ≡ None

  -- no line is faulty
  abbrev pub IsWellFormed : List (Line Event) → Type 0
  IsWellFormed lines = (i : ℕ) → refusal_at lines i ≡ None

  -- the same of events: none is refused after those before it
  abbrev pub AreAccepted : List Event → Type 0
  AreAccepted events = (i : ℕ) → option_and_then (event_refusal (take i events)) (slice_get events i) ≡ None

  -- why nothing was built of some lines
  abbrev pub IsBuildError : List (Line Event) → BuildError → Type 0
  IsBuildError lines (Refused r) = IsRefusal lines r
  IsBuildError lines Memory = Unit {0}
