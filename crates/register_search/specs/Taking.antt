-- What it means for the call of a number to take effect: calls go by the places of their operations.
use Rattle.std.specs.Prelude.{ℕ, Bool, false, List, slice_get, Option, Some, None}
use Rattle.history_text.specs.declared.event.Val.{Val}
use Rattle.history_model.specs.Acts.{suits, left_by}
use Rattle.history_model.specs.declared.operation.Operation.{Operation}

abbrev pub option_suits : Option Operation → Val → Bool
option_suits None v = false
option_suits (Some o) v = suits o.act v

-- whether the value suits the call; there is none of other numbers
abbrev pub suits_at : List Operation → ℕ → Val → Bool
suits_at ops k v = option_suits (slice_get ops k) v

abbrev pub option_left_by : Option Operation → Val → Val
option_left_by None v = v
option_left_by (Some o) v = left_by o.act v

-- the value after it
abbrev pub left_at : List Operation → ℕ → Val → Val
left_at ops k v = option_left_by (slice_get ops k) v
