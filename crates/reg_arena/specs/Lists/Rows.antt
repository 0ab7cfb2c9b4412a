-- What is kept of each event, as columns beside the one list of events.
use Rattle.std.specs.Prelude.{ℕ, ℤ, List, [], ◌∷◌, ◌++◌, map, Option, Some, None, option_map}
use Rattle.history_text.specs.declared.event.Val.{Val}
use Rattle.history_text.specs.declared.event.Val.TheVariants.{Null, Int}
use Rattle.history_model.specs.declared.ids.EvId.{EvId}
use Rattle.history_model.specs.declared.event.Event.{Event}
use Rattle.reg_arena.specs.declared.event_lists.packing.Holds.{Holds}
use Rattle.reg_arena.specs.declared.event_lists.packing.Holds.TheVariants.{Nothing, Initial, Number}
use Rattle.reg_arena.specs.declared.event_lists.packing.PackedEvent.{PackedEvent}
use Rattle.reg_arena.specs.declared.event_lists.rows.Row.{Row}

-- the value of this kind, with its number if it is one
abbrev pub value_held : Holds → ℤ → Option Val
value_held Nothing n = None
value_held Initial n = Some Null
value_held Number n = Some (Int n)

-- the event that is packed
abbrev pub unpacked : PackedEvent → Event
unpacked e = record {
  line = e.line;
  process = e.process;
  register = option_map (λ n. record { 0 = n }) e.register;
  what = e.what;
  value = value_held e.holds e.number;
}

-- one item an event in each column
pub record Columns : Type 0 where
  pub events : List Event
  -- the call of the operation that each event belongs to
  pub calls : List (Option EvId)
  -- the next event of the same register, of the same process, and of the same register and value
  pub in_register : List (Option EvId)
  pub in_process : List (Option EvId)
  pub in_value : List (Option EvId)
  -- the number of the entry of the event's register and value
  pub numbers : List (Option ℕ)

abbrev pub columns_of : List Row → List (Option EvId) → Columns
columns_of rows in_register = record {
  events = map (λ r. unpacked r.event) rows;
  calls = map (λ r. r.call) rows;
  in_register = in_register;
  in_process = map (λ r. r.in_process) rows;
  in_value = map (λ r. r.in_value) rows;
  numbers = map (λ r. r.number) rows;
}

abbrev pub no_columns : Columns
no_columns = record {
  events = [];
  calls = [];
  in_register = [];
  in_process = [];
  in_value = [];
  numbers = [];
}

-- the columns with one other
abbrev pub with_calls : Columns → List (Option EvId) → Columns
with_calls c calls = record c { calls = calls }

abbrev pub with_in_register : Columns → List (Option EvId) → Columns
with_in_register c links = record c { in_register = links }

abbrev pub with_in_process : Columns → List (Option EvId) → Columns
with_in_process c links = record c { in_process = links }

abbrev pub with_in_value : Columns → List (Option EvId) → Columns
with_in_value c links = record c { in_value = links }

-- the columns with one event more, which has no link yet
abbrev pub with_event : Columns → Event → Option EvId → Option ℕ → Columns
with_event c e call number = record {
  events = c.events ++ e ∷ [];
  calls = c.calls ++ call ∷ [];
  in_register = c.in_register ++ None ∷ [];
  in_process = c.in_process ++ None ∷ [];
  in_value = c.in_value ++ None ∷ [];
  numbers = c.numbers ++ number ∷ [];
}
