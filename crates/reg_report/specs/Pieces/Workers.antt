-- What all workers are given and hand back.
use Rattle.std.specs.Prelude.{◌≡◌, ◌+◌, ◌<◌, ◌≤◌, ◌⊎◌, ℕ, length, Bool, false}
use Rattle.std.specs.Prelude.{true, List, [], ◌∷◌, Option, Some, None}
use Rattle.job_board.specs.Numbers.{times}
use Rattle.job_board.specs.Seats.{BoardValue, SeatValue, joint_view}
use Rattle.job_board.specs.Steps.{ClosesWith}
use Rattle.job_board.specs.declared.view.View.{View}
use Rattle.history_model.specs.History.{History}
use Rattle.history_model.specs.Legal.{IsAtomic}
use Rattle.history_model.specs.Operations.{register_of}
use Rattle.history_model.specs.declared.ids.RegId.{RegId}
use Rattle.reg_report.specs.Pieces.Plan.{IsFirstPlan, PlanShown}
use Rattle.reg_report.specs.Pieces.Slots.{IsDoneAt, PiecesShown}
use Rattle.reg_report.specs.Pieces.Work.{ArePieces, IsSeatFor, numbers_of}
use Rattle.reg_report.specs.declared.pieces.tasks.Task.{Task}
use Rattle.reg_report.specs.declared.pieces.worker.Worked.{Worked}

-- ---- before

-- a seat of this board that has drawn and flagged nothing
pub record IsNewSeat (tasks : List Task) (board : BoardValue) (seat : SeatValue) : Type 0 where
  pub fits : IsSeatFor tasks board seat
  pub new : seat.view.drawn ≡ []
  pub unflagged : seat.view.flagged ≡ []

-- the weights of all seats
abbrev pub weight_of_all : List SeatValue → ℕ
weight_of_all [] = 0
weight_of_all (s ∷ ss) = s.view.weight + weight_of_all ss

-- ---- after

-- what is known of the registers by a seat: each one that it drew is atomic, or flagged, or above the number
-- that was seen; and no flagged one is atomic
pub record IsSearched (h : History) (v : View) : Type 0 where
  pub passed : (n : ℕ) → 0 < times n v.drawn
      → IsAtomic (register_of h n) ⊎ ((0 < times n v.flagged) ⊎ (v.seen < n))
  pub flagged : (n : ℕ) → 0 < times n v.flagged → IsAtomic (register_of h n) → ⊥

-- What a worker hands back that was given a new seat: where memory wasn't refused, the seat drew what is
-- done and no more, and no number was left.
pub record IsHandedBack (h : History) (plan : PlanShown) (board : BoardValue) (w : Worked) : Type 0 where
  pub here : w.seat.board ≡ board.id
  pub drawn : w.refused ≡ false → w.seat.view.drawn ≡ numbers_of w.done.items
  pub exhausted : w.refused ≡ false → w.seat.view.exhausted ≡ true
  pub pieces : ArePieces h plan.tasks w.done.items
  pub searched : w.refused ≡ false → IsFirstPlan h plan → IsSearched h w.seat.view

-- the weights of the seats that are handed back
abbrev pub weight_back : List Worked → ℕ
weight_back [] = 0
weight_back (w ∷ ws) = w.seat.view.weight + weight_back ws

-- ---- put together

-- the weight of the seat that those before were made into, where there is one
abbrev pub weight_so_far : Option SeatValue → ℕ
weight_so_far None = 0
weight_so_far (Some seat) = seat.view.weight

-- what a seat has once it is made one with those before
abbrev pub view_with : Option SeatValue → SeatValue → View
view_with None seat = seat.view
view_with (Some before) seat = joint_view before.view seat.view

-- Seats of this board that were made into one: where no worker was refused memory, each number that they drew
-- has what is done for its task in its slot, and no number was left.
pub record IsJoined (h : History) (tasks : List Task) (board : BoardValue) (pieces : PiecesShown)
    (refused : Bool) (seat : SeatValue) : Type 0 where
  pub here : seat.board ≡ board.id
  pub exhausted : refused ≡ false → seat.view.exhausted ≡ true
  pub full : refused ≡ false → (n : ℕ) → 0 < times n seat.view.drawn → IsDoneAt h tasks pieces n

-- Seats of this board that were made into one: where no worker was refused memory, no number was left,
-- and this is known of all that they drew.
pub record IsJoinedSearch (h : History) (board : BoardValue) (refused : Bool)
    (seat : SeatValue) : Type 0 where
  pub here : seat.board ≡ board.id
  pub exhausted : refused ≡ false → seat.view.exhausted ≡ true
  pub searched : refused ≡ false → IsSearched h seat.view

-- what the closing of a board of this many jobs says: there is the one seat,
-- and if it is exhausted, it drew each number
abbrev pub ClosesWhole : ℕ → Option SeatValue → ℕ → Type 0
ClosesWhole jobs None least = ⊥
ClosesWhole jobs (Some seat) least =
    (seat.view.exhausted ≡ true → (n : ℕ) → n < jobs → 0 < times n seat.view.drawn)
    × ClosesWith jobs seat.view least

-- ---- the first register that isn't atomic

-- the registers below n are atomic, and n is one that isn't or the number of registers
pub record IsFoundAt (h : History) (registers n : ℕ) : Type 0 where
  pub within : n ≤ registers
  pub below : (r : ℕ) → r < n → IsAtomic (register_of h r)
  pub at : n < registers → IsAtomic (register_of h n) → ⊥

-- register r isn't atomic, and those below it are
pub record IsFirstFaulty (h : History) (r : ℕ) : Type 0 where
  pub within : r < length h.names
  pub below : (k : ℕ) → k < r → IsAtomic (register_of h k)
  pub faulty : IsAtomic (register_of h r) → ⊥

-- the first register that isn't atomic, or none where each is
abbrev pub IsFirstFound : History → Option RegId → Type 0
IsFirstFound h None = (r : ℕ) → r < length h.names → IsAtomic (register_of h r)
IsFirstFound h (Some r) = IsFirstFaulty h r.0
