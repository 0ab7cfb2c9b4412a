-- What an accepted history is: the names of its registers, and its events.
use Rattle.std.specs.Prelude.{◌≡◌, ℕ, List, [], ◌∷◌, ◌++◌, filter, filter_map, not}
use Rattle.std.specs.Prelude.{bytes_eq, Option, Some, None, option_map, option_and_then}
use Rattle.std.specs.Option.{option_or}
use Rattle.std.specs.List.{position_or_len}
use Rattle.history_text.specs.declared.event.Val.{Val}
use Rattle.history_text.specs.declared.event.OpKind.{OpKind}
use Rattle.history_text.specs.declared.event.OpKind.TheVariants.{ReadOp, WriteOp}
use Rattle.history_text.specs.declared.event.Kind.{Kind}
use Rattle.history_text.specs.declared.event.Kind.TheVariants.{CallRead, CallWrite, Reply, Fail, Crash}
use Rattle.history_text.specs.declared.event.LineEvent.{LineEvent}
use Rattle.history_model.specs.Events.{Asked, asked_by, replied_by, ended_by, open_asked}
use Rattle.history_model.specs.Refusals.{AreAccepted}
use Rattle.history_model.specs.declared.event.Event.{Event}
use Rattle.history_model.specs.declared.event.What.{What}
use Rattle.history_model.specs.declared.event.What.TheVariants.{Call, Reply as ReplyTo}
use Rattle.history_model.specs.declared.event.What.TheVariants.{Fail as FailOf, Crash as Crashes}

pub record History : Type 0 where
  pub names : List (List ℕ)
  pub events : List Event

-- each name once, where it comes first
abbrev pub first_names : List (List ℕ) → List (List ℕ)
first_names [] = []
first_names (name ∷ names) = name ∷ filter (λ n. not (bytes_eq n name)) (first_names names)

-- the registers, in the order of their first calls
abbrev pub register_names : List LineEvent → List (List ℕ)
register_names events =
    first_names (filter_map (λ e. option_map (λ call. call.register) (asked_by e.kind)) events)

-- the number of a register after some events: its place among the registers called before, or else the next
abbrev pub register_number : List LineEvent → List ℕ → ℕ
register_number before name = position_or_len (bytes_eq name) (register_names before)

-- what the call of an event asks for: a call's own, and a reply's or a fail's from
-- the call that is open; a crash has no call
abbrev pub asked_for : List LineEvent → LineEvent → Option Asked
asked_for before e =
    option_or (asked_by e.kind) (option_and_then (λ _. open_asked before e.process) (ended_by e.kind))

-- what an event is, where its call asks for this kind
abbrev pub what_by : OpKind → Kind → What
what_by kind (CallRead name) = Call kind
what_by kind (CallWrite name n) = Call kind
what_by kind (Reply parts) = ReplyTo kind
what_by kind (Fail parts) = FailOf kind
what_by kind Crash = Crashes

-- the kind of the call; a crash has none
abbrev pub kind_asked : Option Asked → OpKind
kind_asked None = ReadOp
kind_asked (Some call) = call.kind

-- a write's call, its reply and its fail have the written value, a read's reply the one that
-- it gives, a read's call and its fail none
abbrev pub event_value : Asked → OpKind → LineEvent → Option Val
event_value call ReadOp e = option_and_then (λ parts. parts.value) (replied_by e.kind)
event_value call WriteOp e = call.value

-- an event, with what its call says
abbrev pub event_after : List LineEvent → LineEvent → Event
event_after before e = let call = asked_for before e in record {
  line = e.line;
  process = e.process;
  register = option_map (λ call. record { 0 = register_number before call.register }) call;
  what = what_by (kind_asked call) e.kind;
  value = option_and_then (λ call. event_value call call.kind e) call;
}

abbrev pub events_after : List LineEvent → List LineEvent → List Event
events_after before [] = []
events_after before (e ∷ es) = event_after before e ∷ events_after (before ++ e ∷ []) es

abbrev pub history_of : List LineEvent → History
history_of events = record { names = register_names events; events = events_after [] events }

-- it is the history of some accepted events
pub record IsRecorded (h : History) : Type 0 where
  pub events : List LineEvent
  pub accepted : AreAccepted events
  pub is : h ≡ history_of events
