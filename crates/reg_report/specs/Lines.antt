-- The lines of an order whose operations go by their names.
use Rattle.std.specs.Prelude.{◌≡◌, ℕ, ◌+◌, ◌-◌, ◌<◌, ◌≤◌, List, [], ◌∷◌, length, slice_get, Some}
use Rattle.history_model.specs.declared.event.Event.{Event}
use Rattle.history_model.specs.declared.ids.Oper.{Oper}
use Rattle.history_model.specs.declared.ids.Oper.TheVariants.{Initial, Called}
use Rattle.history_model.specs.History.{History}
use Rattle.reg_zones.specs.declared.placed.Placed.{Placed}
use Rattle.reg_report.specs.Meaning.{line_at}

-- a line in front of others, where the name is not that of an initial write
abbrev pub line_if_called : Oper → ℕ → List ℕ → List ℕ
line_if_called (Initial r) line lines = lines
line_if_called (Called i) line lines = line ∷ lines

-- the time of the call that the name says
abbrev pub call_of : Oper → ℕ
call_of (Initial r) = 0
call_of (Called i) = i.0 + 2

-- a line for each called operation
abbrev pub lines_by : (Placed → ℕ) → List Placed → List ℕ
lines_by line [] = []
lines_by line (x ∷ xs) = line_if_called x.oper (line x) (lines_by line xs)

-- the line of the operation's call
abbrev pub call_line : List Event → Placed → ℕ
call_line events x = line_at events (call_of x.oper)

-- and that of the call at its point
abbrev pub point_line : List Event → Placed → ℕ
point_line events x = line_at events x.point

-- a call's name is that of an event
abbrev pub HasCall : History → Oper → Type 0
HasCall h (Initial r) = Unit {0}
HasCall h (Called i) = i.0 < length h.events

-- the point of a call is the time of an event
abbrev pub HasPoint : History → Oper → ℕ → Type 0
HasPoint h (Initial r) point = Unit {0}
HasPoint h (Called i) point = (2 ≤ point) × (point - 2 < length h.events)

abbrev pub HaveCalls : History → List Placed → Type 0
HaveCalls h order = (i : ℕ) (x : Placed) → slice_get order i ≡ Some x → HasCall h x.oper

abbrev pub HavePoints : History → List Placed → Type 0
HavePoints h order = (i : ℕ) (x : Placed) → slice_get order i ≡ Some x → HasPoint h x.oper x.point
