-- What the code keeps beside a list of events, to find in it, and the names that events call.
use Rattle.std.specs.Prelude.{◌≡◌, ℕ, ◌+◌, ◌<◌, ◌≤◌, List, [], ◌∷◌, drop, length, set, slice_get}
use Rattle.std.specs.Prelude.{cond}
use Rattle.std.specs.Prelude.{Option, Some, None, option_map, option_and_then}
use Rattle.history_text.specs.declared.limits.TheConstants.{MAX_EVENTS}
use Rattle.history_text.specs.declared.event.AnyEvent.{AnyEvent}
use Rattle.history_model.specs.declared.operation.Operation.{Operation}
use Rattle.history_model.specs.Calls.{Calls, begins, next_of, operation, reply_in}
use Rattle.history_model.specs.Table.{last_event}
use Rattle.reg_arena.specs.Numbered.{with_name}
use Rattle.reg_intake.specs.CasHistory.Events.{Called, any_form, called_by}
use Rattle.reg_intake.specs.CasHistory.History.{any_calls}

-- the event at a place, if there is one, with its time
abbrev pub event_at : List AnyEvent → Option ℕ → Option (ℕ × AnyEvent)
event_at events place = option_and_then (λ i. option_map (λ e. (i + 2, e)) (slice_get events i)) place

-- the place that the event at a place is linked to, if any
abbrev pub link_at : List (Option ℕ) → ℕ → Option ℕ
link_at next i = option_and_then (λ o. o) (slice_get next i)

-- Each event is linked to the next one of its process, if there is one.
pub record AreLinked (events : List AnyEvent) (next : List (Option ℕ)) : Type 0 where
  pub count : length next ≡ length events
  pub each : (names : List (List ℕ)) (i : ℕ) (e : AnyEvent) → slice_get events i ≡ Some e
      → next_of (any_calls names) e.process (i + 1 + 2) (drop (i + 1) events) ≡ event_at events
      (link_at next i)

-- The place of each process's last event, which alone is linked to none; the events are no more than a
-- history may have.
pub record IsKept (events : List AnyEvent) (next : List (Option ℕ)) (place : ℕ → Option ℕ) : Type 0 where
  pub few : length events ≤ MAX_EVENTS
  pub last : (p : ℕ) → last_event any_form events p ≡ option_and_then (slice_get events) (place p)
  pub within : (p i : ℕ) → place p ≡ Some i → i < length events
  pub linked : AreLinked events next
  pub below : (i j : ℕ) → i < length events → link_at next i ≡ Some j → j < length events
  pub ends : (p i : ℕ) → place p ≡ Some i → link_at next i ≡ None
  pub unlinked : (i : ℕ) (e : AnyEvent) → slice_get events i ≡ Some e → link_at next i ≡ None
      → place e.process ≡ Some i

-- the links, with one more from the event before, if there is one
abbrev pub linked_from : List (Option ℕ) → Option ℕ → ℕ → List (Option ℕ)
linked_from next None place = next
linked_from next (Some before) place = set next before (Some place)

-- the operation that an event begins at a time, if any, by the next event of its process
abbrev pub operation_at : Calls AnyEvent → ℕ → ℕ → AnyEvent → Option (ℕ × AnyEvent) → Option Operation
operation_at calls n s e next =
    cond (begins calls e next) (Some (operation calls n s e (reply_in calls next))) None

abbrev pub option_list : Option Operation → List Operation
option_list None = []
option_list (Some a) = a ∷ []

-- the names with that of the register that an event calls, which comes last if it is new
abbrev pub with_called : List (List ℕ) → AnyEvent → List (List ℕ)
with_called names e = with_name names (option_map (λ (call : Called). call.register) (called_by e.kind))
