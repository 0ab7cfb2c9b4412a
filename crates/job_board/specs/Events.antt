-- Lists of the board's events (this project's own design). A draw, a flag or a look is a step of one seat on
-- one of the two words; a split or a join changes seats alone.
use Rattle.std.specs.Prelude.{◌≡◌, ℕ, ◌+◌, ◌<◌, min, ltb, if◌then◌else◌, false, List, [], ◌∷◌, ◌++◌, set}
use mathlib.Core.Option.{some}
use lib.ListN.{get_elem?}
use Rattle.job_board.specs.Numbers.{times}
use Rattle.job_board.specs.Seats.{opening_view, spent_view, with_drawn, with_exhausted, with_flag}
use Rattle.job_board.specs.Seats.{with_seen, first_part, second_part, joint_view, View}

-- the two words, and the seats
pub record State : Type 0 where
  pub next : ℕ
  pub least : ℕ
  pub seats : List View

-- a state from its parts
abbrev pub state_of : ℕ → ℕ → List View → State
state_of next least seats = record { next = next; least = least; seats = seats }

-- a new board, with one seat
abbrev pub opening_state : ℕ → State
opening_state jobs = state_of 0 jobs (opening_view jobs ∷ [])

-- Who steps, by the seat's place in the list; then the number flagged, the weight of the first
-- part, or the seat that is joined into it.
pub data Event : Type 0 where
  draw : ℕ → Event
  flag : ℕ → ℕ → Event
  look : ℕ → Event
  split : ℕ → ℕ → Event
  join : ℕ → ℕ → Event

-- the seat at a place, which isn't spent
abbrev pub IsSeatAt : State → ℕ → View → Type 0
IsSeatAt s id v = (get_elem? s.seats id ≡ some v) × (0 < v.weight)

-- the seat after a draw that found n
abbrev pub view_after_draw : ℕ → View → ℕ → View
view_after_draw jobs v n = if ltb n jobs then with_drawn v n else with_exhausted v

-- the event leads from one state to the other
abbrev pub Leads : ℕ → Event → State → State → Type 0
Leads jobs (draw id) s t =
    (v : View) × IsSeatAt s id v × (v.exhausted ≡ false)
    × (t ≡ state_of (s.next + 1) s.least (set s.seats id (view_after_draw jobs v s.next)))
Leads jobs (flag id j) s t =
    (v : View) × IsSeatAt s id v × (0 < times j v.drawn)
    × (t ≡ state_of s.next (min s.least j) (set s.seats id (with_flag v j)))
Leads jobs (look id) s t =
    (v : View) × IsSeatAt s id v × (t ≡ state_of s.next s.least (set s.seats id (with_seen v s.least)))
Leads jobs (split id part) s t =
    (v : View) × IsSeatAt s id v × (0 < part) × (part < v.weight)
    × (t ≡ state_of s.next s.least (set s.seats id (first_part part v) ++ second_part part v ∷ []))
Leads jobs (join id other) s t =
    (v : View) × (w : View) × IsSeatAt s id v × IsSeatAt s other w × (other ≡ id → ⊥)
    × (t ≡ state_of s.next s.least (set (set s.seats id (joint_view v w)) other spent_view))

-- the events, one after another, lead from one state to the other
abbrev pub LeadTo : ℕ → List Event → State → State → Type 0
LeadTo jobs [] s t = s ≡ t
LeadTo jobs (e ∷ es) s t = (between : State) × Leads jobs e s between × LeadTo jobs es between t
