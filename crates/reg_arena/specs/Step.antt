-- What the building of an arena does with one event; `events` and `h` are what the events before it gave.
use Rattle.std.specs.Prelude.{◌≡◌, ℕ, ◌<◌, ◌++◌, ◌∷◌, [], List, length, slice_get}
use Rattle.std.specs.Prelude.{bytes_eq, Option, Some, None, Result, Ok, Err}
use Rattle.std.specs.declared.alloc.AllocError.{AllocError}
use Rattle.std.specs.List.{position_or_len}
use Rattle.history_text.specs.declared.event.Val.{Val}
use Rattle.history_text.specs.declared.event.LineEvent.{LineEvent}
use Rattle.history_model.specs.declared.ids.EvId.{EvId}
use Rattle.history_model.specs.declared.event.Event.{Event}
use Rattle.history_model.specs.declared.event.What.TheVariants.{Call, Crash}
use Rattle.reg_arena.specs.declared.process_standing.Open.{Open}
use Rattle.reg_arena.specs.declared.process_standing.Standing.{Standing}
use Rattle.reg_arena.specs.declared.process_standing.Standing.TheVariants.{Opened, Crashed, Free}
use Rattle.history_model.specs.declared.refusal.BuildError.{BuildError}
use Rattle.history_model.specs.declared.refusal.BuildError.TheVariants.{Refused, Memory}
use Rattle.history_model.specs.Walking.{IsFirstOf, by_process, by_value}
use Rattle.reg_arena.specs.Lists.EventLists.{IsCall, IsLastOf, by_write}
use Rattle.history_model.specs.History.{History, IsRecorded, history_of}
use Rattle.history_model.specs.Refusals.{AreAccepted, event_refusal}

-- the number of a name, where it has one
abbrev pub IsNumber : List (List ℕ) → List ℕ → Option ℕ → Type 0
IsNumber names name None = position_or_len (bytes_eq name) names ≡ length names
IsNumber names name (Some r) = (position_or_len (bytes_eq name) names ≡ r) × (r < length names)

abbrev pub IsCrash : List Event → ℕ → Type 0
IsCrash events i = (e : Event) × (slice_get events i ≡ Some e) × (e.what ≡ Crash)

-- the call that a process has open, as its event says: its last event, where that is a call
pub record IsOpenCall (events : List Event) (p : ℕ) (open_one : Open) : Type 0 where
  pub event : Event
  pub there : slice_get events open_one.call.0 ≡ Some event
  pub last : IsLastOf by_process events p (Some open_one.call)
  pub what : event.what ≡ Call open_one.kind
  pub register : event.register ≡ Some open_one.register
  pub value : event.value ≡ open_one.value

-- how a process stands: by its last event it has a call open, or crashed, or it has neither
abbrev pub IsStanding : List Event → ℕ → Standing → Type 0
IsStanding events p (Opened open_one) = IsOpenCall events p open_one
IsStanding events p (Crashed j) = IsLastOf by_process events p (Some j) × IsCrash events j.0
IsStanding events p Free =
    (j : EvId) → IsLastOf by_process events p (Some j) → (IsCall events j.0 → ⊥) × (IsCrash events j.0 → ⊥)

-- the last event of the register and value; a new register has none,
-- nor has a read's call, which has no value
abbrev pub IsLastWith : List Event → Option ℕ → Option Val → Option EvId → Type 0
IsLastWith events None v o = o ≡ None
IsLastWith events (Some r) None o = o ≡ None
IsLastWith events (Some r) (Some v) o = IsLastOf by_value events (r, v) o

-- the call that wrote the value to the register before; a new register has none
abbrev pub IsWritten : List Event → Option ℕ → Option Val → Option EvId → Type 0
IsWritten events None v o = o ≡ None
IsWritten events (Some r) None o = o ≡ None
IsWritten events (Some r) (Some v) o = IsFirstOf by_write events (r, v) o

-- the event e isn't refused, whatever accepted events gave the history
pub record IsTaken (h : History) (e : LineEvent) : Type 0 where
  pub recorded : IsRecorded h
  pub free : (before : List LineEvent) → AreAccepted before → h ≡ history_of before
      → event_refusal before e ≡ None

-- the name that a call adds: none, where its register has a number
abbrev pub name_added : Option ℕ → List ℕ → Option (List ℕ)
name_added None name = Some name
name_added (Some r) name = None

-- the names with one more, if there is one
abbrev pub names_and : List (List ℕ) → Option (List ℕ) → List (List ℕ)
names_and names None = names
names_and names (Some name) = names ++ name ∷ []

-- the history with one event more, and one name more if there is one
abbrev pub with_event : History → Option (List ℕ) → Event → History
with_event h name e = record { names = names_and h.names name; events = h.events ++ e ∷ [] }

-- what a step gave: the history after it, or its error
abbrev pub step_result : {E : Type 0} → History → Result (Unit {0}) E → Result History E
step_result h (Ok x) = Ok h
step_result h (Err e) = Err e

-- where memory is there, the next history is that of the events with e
abbrev pub OnOkAfter : History → LineEvent → Result History AllocError → Type 0
OnOkAfter h e (Ok g) =
    (before : List LineEvent) → AreAccepted before → h ≡ history_of before → g ≡ history_of (before ++ e ∷ [])
OnOkAfter h e (Err x) = Unit {0}

-- the refusal of the event after those before it, or the history with it
abbrev pub IsStep : List LineEvent → LineEvent → Result History BuildError → Type 0
IsStep before e (Ok h) = (event_refusal before e ≡ None) × (h ≡ history_of (before ++ e ∷ []))
IsStep before e (Err (Refused r)) = event_refusal before e ≡ Some r
IsStep before e (Err Memory) = Unit {0}

-- the error of the event, whatever accepted events gave the history
abbrev pub IsStopped : History → LineEvent → BuildError → Type 0
IsStopped h e error =
    (before : List LineEvent) → AreAccepted before → h ≡ history_of before → IsStep before e (Err error)
