-- Which histories are refused, for which line, and why (the format's own rules;
-- docs/format.md has the table of numbers).
use Rattle.std.specs.Prelude.{ℕ, ◌&&◌, List, [], ◌∷◌, length}
use Rattle.std.specs.Prelude.{Bool, false, not, is_none, bytes_eq}
use Rattle.std.specs.Prelude.{Option, option_map, option_and_then}
use Rattle.history_text.specs.Values.{value_eq}
use Rattle.history_text.specs.declared.event.Val.{Val}
use Rattle.history_text.specs.declared.event.Val.TheVariants.{Int}
use Rattle.history_text.specs.declared.event.LineEvent.{LineEvent}
use Rattle.history_text.specs.declared.event.Kind.{Kind}
use Rattle.history_text.specs.declared.event.Kind.TheVariants.{CallRead, CallWrite, Reply, Fail, Crash}
use Rattle.history_text.specs.declared.event.ReplyParts.{ReplyParts}
use Rattle.history_model.specs.Lists.{first_with}
use Rattle.history_model.specs.Table as table
use Rattle.history_model.specs.Table.{Rules}
use Rattle.history_model.specs.Events.{Asked, asked_by, replied_by, failed_by, last_event, plain_form}
use Rattle.history_model.specs.Events.{reply_agrees, fail_agrees}
use Rattle.history_model.specs.declared.refusal.LineRefusal.{LineRefusal}
use Rattle.history_model.specs.declared.refusal.Reason.{Reason}
use Rattle.history_model.specs.declared.refusal.BuildError.{BuildError}
use Rattle.history_model.specs.declared.refusal.Reason.TheVariants.{Disagreement, NoValue, WrittenBefore}

-- a line that isn't blank: its event, or its own fault
abbrev pub Line : Type 0
Line = table.Line LineEvent

abbrev pub events_of : List Line → List LineEvent
events_of lines = table.events_of lines

-- whether the event is a call that writes the value v to the register of this name
abbrev pub writes_to : List ℕ → Val → Kind → Bool
writes_to name v (CallRead n) = false
writes_to name v (CallWrite n m) = bytes_eq n name && value_eq (Int m) v
writes_to name v (Reply parts) = false
writes_to name v (Fail parts) = false
writes_to name v Crash = false

-- 13: a write of a value that an earlier write call gave to the same register, also if that call failed
abbrev pub value_written : List LineEvent → LineEvent → Option LineRefusal
value_written before e =
    option_and_then (λ call.
    option_and_then
    (λ v. option_map (λ w. record { line = e.line; reason = WrittenBefore w.line })
    (first_with (λ w. writes_to call.register v w.kind) before)) call.value) (asked_by e.kind)

-- the rules of a program of reads and writes, where values are distinct
abbrev pub plain_rules : Rules LineEvent Asked
plain_rules = record {
  form = plain_form;
  reply_agrees = reply_agrees;
  fail_agrees = fail_agrees;
  is_without_value = λ e call reply. is_none call.value && is_none reply.value;
  faults_of_replies = [];
  repeats = λ before e. value_written before e ∷ [];
}

abbrev pub refused : LineEvent → Reason → LineRefusal
refused e reason = table.refused plain_rules e reason

abbrev pub call_while_open : List LineEvent → LineEvent → Option LineRefusal
call_while_open before e = table.call_while_open plain_rules (last_event before e.process) e

abbrev pub end_without_call : List LineEvent → LineEvent → Option LineRefusal
end_without_call before e = table.end_without_call plain_rules (last_event before e.process) e

abbrev pub failing : (Asked → ReplyParts → Bool) → Reason → List LineEvent → LineEvent → Option ReplyParts
    → Option LineRefusal
failing fails reason before e said = table.failing plain_rules fails reason
    (last_event before e.process) e said

abbrev pub reply_disagrees : List LineEvent → LineEvent → Option LineRefusal
reply_disagrees before e =
    failing (λ call reply. not (reply_agrees call reply)) Disagreement before e (replied_by e.kind)

abbrev pub fail_disagrees : List LineEvent → LineEvent → Option LineRefusal
fail_disagrees before e =
    failing (λ call fail. not (fail_agrees call fail)) Disagreement before e (failed_by e.kind)

abbrev pub reply_without_value : List LineEvent → LineEvent → Option LineRefusal
reply_without_value before e =
    failing (λ call reply. is_none call.value && is_none reply.value) NoValue before e (replied_by e.kind)

abbrev pub too_many : List LineEvent → LineEvent → Option LineRefusal
too_many before e = table.too_many plain_rules (length before) e

abbrev pub after_crash : List LineEvent → LineEvent → Option LineRefusal
after_crash before e = table.after_crash plain_rules (last_event before e.process) e

-- the reasons that are left of any event, 14 and 19
abbrev pub late_refusal : List LineEvent → LineEvent → Option LineRefusal
late_refusal before e = table.late_refusal plain_rules (length before) (last_event before e.process) e

-- ---- the refusal of a line, and of a history

abbrev pub event_refusal : List LineEvent → LineEvent → Option LineRefusal
event_refusal before e = table.event_refusal plain_rules before e

abbrev pub line_refusal : List Line → Line → Option LineRefusal
line_refusal before line = table.line_refusal plain_rules before line

abbrev pub refusal_at : List Line → ℕ → Option LineRefusal
refusal_at lines i = table.refusal_at plain_rules lines i

-- the history is refused for the first faulty line
abbrev pub IsRefusal : List Line → LineRefusal → Type 0
IsRefusal lines r = table.IsRefusal plain_rules lines r

-- no line is faulty
abbrev pub IsWellFormed : List Line → Type 0
IsWellFormed lines = table.IsWellFormed plain_rules lines

-- the same of events: none is refused after those before it
abbrev pub AreAccepted : List LineEvent → Type 0
AreAccepted events = table.AreAccepted plain_rules events

-- why no arena was built of some lines
abbrev pub IsBuildError : List Line → BuildError → Type 0
IsBuildError lines e = table.IsBuildError plain_rules lines e
