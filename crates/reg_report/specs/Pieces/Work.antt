-- What a worker takes and hands back.
use Rattle.std.specs.Prelude.{◌≡◌, ◌⊎◌, ◌<◌, ◌≤◌, ℕ, Bool, List, [], ◌∷◌, ◌++◌}
use Rattle.std.specs.Prelude.{length, map, slice_get, Some, true, false}
use Rattle.job_board.specs.Seats.{BoardValue, SeatValue}
use Rattle.history_model.specs.History.{History}
use Rattle.history_model.specs.Operations.{register_of}
use Rattle.reg_report.specs.Pieces.Judged.{IsLookedAt, is_faulty}
use Rattle.reg_report.specs.Pieces.Plan.{IsPieceAt, PlanShown}
use Rattle.reg_report.specs.declared.pieces.piece.Piece.{Piece}
use Rattle.reg_report.specs.declared.pieces.piece.Piece.TheVariants.{Skipped}
use Rattle.reg_report.specs.declared.pieces.tasks.Task.{Task}
use Rattle.reg_report.specs.declared.pieces.worker.Worked.{Worked}

-- a seat of this board, whose jobs are the tasks
pub record IsSeatFor (tasks : List Task) (board : BoardValue) (seat : SeatValue) : Type 0 where
  pub here : seat.board ≡ board.id
  pub jobs : seat.view.jobs ≡ length tasks

-- the numbers of what is done
abbrev pub numbers_of : List (ℕ × Piece) → List ℕ
numbers_of done = map (λ d. d.0) done

-- each is what is done for the task of its number
abbrev pub ArePieces : History → List Task → List (ℕ × Piece) → Type 0
ArePieces h tasks done = (i : ℕ) (d : ℕ × Piece) → slice_get done i ≡ Some d → IsPieceAt h tasks d.0 d.1

-- one more piece is done, that of this number
abbrev pub AddsPiece : History → List Task → ℕ → List (ℕ × Piece) → List (ℕ × Piece) → Type 0
AddsPiece h tasks number old new = (p : Piece) × IsPieceAt h tasks number p × (new ≡ old ++ (number, p) ∷ [])

-- ---- flags

-- the number where the test holds
abbrev pub number_where : Bool → ℕ → List ℕ
number_where true n = n ∷ []
number_where false n = []

-- the numbers of the faults
abbrev pub faulty_numbers : List (ℕ × Piece) → List ℕ
faulty_numbers [] = []
faulty_numbers (d ∷ ds) = number_where (is_faulty d.1) d.0 ++ faulty_numbers ds

-- what is flagged for what is done: the numbers of the faults where the first register that
-- isn't atomic is asked for, and else nothing
abbrev pub Flags : Bool → List (ℕ × Piece) → List ℕ → List ℕ → Type 0
Flags true done old new = new ≡ old ++ faulty_numbers done
Flags false done old new = new ≡ old

-- a register is skipped only above the number that was seen
abbrev pub AreSkippedAbove : ℕ → List (ℕ × Piece) → Type 0
AreSkippedAbove seen done = (i : ℕ) (d : ℕ × Piece) → slice_get done i ≡ Some d → d.1 ≡ Skipped → seen < d.0

-- what stays of a seat that looks and flags
pub record KeepsSeat (old new : SeatValue) : Type 0 where
  pub board : new.board ≡ old.board
  pub weight : new.view.weight ≡ old.view.weight
  pub jobs : new.view.jobs ≡ old.view.jobs
  pub drawn : new.view.drawn ≡ old.view.drawn
  pub seen : new.view.seen ≤ old.view.seen

-- one more register is looked at, and flagged if it isn't atomic
pub record AddsRegister (h : History) (number : ℕ) (seat with_it : SeatValue)
    (old new : List (ℕ × Piece)) : Type 0 where
  pub piece : Piece
  pub looked : IsLookedAt (register_of h number) piece
  pub added : new ≡ old ++ (number, piece) ∷ []
  pub flagged : with_it.view.flagged ≡ seat.view.flagged ++ number_where (is_faulty piece) number
  pub skipped : piece ≡ Skipped → with_it.view.seen < number

-- ---- a worker

-- What a worker that was given a seat hands back: the seat, of the same weight. It drew what is done, in
-- its order, and, if memory ran out, at most one number more; if it didn't, no number was left. It
-- flagged what the plan asks for.
pub record HasWorked (h : History) (plan : PlanShown) (seat : SeatValue) (w : Worked) : Type 0 where
  pub board : w.seat.board ≡ seat.board
  pub weight : w.seat.view.weight ≡ seat.view.weight
  pub jobs : w.seat.view.jobs ≡ seat.view.jobs
  pub flagged : Flags plan.first w.done.items seat.view.flagged w.seat.view.flagged
  pub drawn : (w.seat.view.drawn ≡ seat.view.drawn ++ numbers_of w.done.items)
      ⊎ ((w.refused ≡ true)
      × ((number : ℕ) × (w.seat.view.drawn ≡ seat.view.drawn ++ numbers_of w.done.items ++ number ∷ [])))
  pub exhausted : w.refused ≡ false → w.seat.view.exhausted ≡ true
  pub pieces : ArePieces h plan.tasks w.done.items
  pub skipped : AreSkippedAbove w.seat.view.seen w.done.items
