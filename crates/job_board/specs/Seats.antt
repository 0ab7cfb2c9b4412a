-- What a seat has, and what each step changes in the seat that steps (this project's own design).
use Rattle.std.specs.Prelude.{ℕ, ◌+◌, ◌-◌, min, Bool, true, false, ◌||◌, List, [], ◌∷◌, ◌++◌}
pub use Rattle.atomic_table.specs.Seated.{TableId}
use Rattle.job_board.specs.declared.limits.TheConstants.{FULL_WEIGHT}
pub use Rattle.job_board.specs.declared.view.View.{View}

-- what a contract sees of a board: its name, and the number of its jobs
pub record BoardValue : Type 0 where
  pub id : TableId
  pub jobs : ℕ

-- what a contract sees of a seat: its board's name, and what the seat has
pub record SeatValue : Type 0 where
  pub board : TableId
  pub view : View

-- a view from its parts
abbrev pub view_of : ℕ → ℕ → List ℕ → List ℕ → ℕ → Bool → View
view_of jobs weight drawn flagged seen exhausted = record {
  jobs = jobs;
  weight = weight;
  drawn = drawn;
  flagged = flagged;
  seen = seen;
  exhausted = exhausted;
}

-- the one seat of a new board: it has all the weight, and has drawn, flagged and seen nothing
abbrev pub opening_view : ℕ → View
opening_view jobs = view_of jobs FULL_WEIGHT [] [] jobs false

-- what is left of a seat that was joined into another
abbrev pub spent_view : View
spent_view = view_of 0 0 [] [] 0 false

-- after a draw of the number j
abbrev pub with_drawn : View → ℕ → View
with_drawn v j = view_of v.jobs v.weight (v.drawn ++ j ∷ []) v.flagged v.seen v.exhausted

-- after a draw that found no number left
abbrev pub with_exhausted : View → View
with_exhausted v = view_of v.jobs v.weight v.drawn v.flagged v.seen true

-- after a flag of the number j
abbrev pub with_flag : View → ℕ → View
with_flag v j = view_of v.jobs v.weight v.drawn (v.flagged ++ j ∷ []) (min v.seen j) v.exhausted

-- after a look that found n
abbrev pub with_seen : View → ℕ → View
with_seen v n = view_of v.jobs v.weight v.drawn v.flagged n v.exhausted

-- the first seat of a split: it keeps what was drawn and flagged
abbrev pub first_part : ℕ → View → View
first_part part v = view_of v.jobs part v.drawn v.flagged v.seen v.exhausted

-- the second: it has the rest of the weight, and has drawn and flagged nothing
abbrev pub second_part : ℕ → View → View
second_part part v = view_of v.jobs (v.weight - part) [] [] v.seen v.exhausted

-- two seats as one
abbrev pub joint_view : View → View → View
joint_view v w =
    view_of v.jobs (v.weight + w.weight) (v.drawn ++ w.drawn) (v.flagged ++ w.flagged) (min v.seen w.seen)
    (v.exhausted || w.exhausted)
