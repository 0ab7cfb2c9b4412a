-- What is done, by its number.
use Rattle.std.specs.Prelude.{◌≡◌, ◌<◌, ◌≤◌, ℕ, List, [], ◌∷◌, set, slice_get, Some}
use Rattle.history_model.specs.History.{History}
use Rattle.history_model.specs.Operations.{register_of}
use Rattle.reg_report.specs.Pieces.BadReads.{AreFirstBad}
use Rattle.reg_report.specs.Pieces.Judged.{IsJudged, no_judgement}
use Rattle.reg_report.specs.declared.pieces.bad_reads.BadReads.{BadReads}
use Rattle.reg_report.specs.declared.pieces.judgement.Judgement.{Judgement}
use Rattle.reg_report.specs.declared.pieces.piece.Piece.{Piece}
use Rattle.reg_report.specs.declared.pieces.piece.Piece.TheVariants as piece
use Rattle.reg_report.specs.declared.pieces.tasks.Task.{Task}
use Rattle.reg_report.specs.declared.pieces.tasks.Task.TheVariants.{Judge, Reads, First}

-- what contracts see of pieces: the judgements and the first bad reads of cuts, each by number
pub record PiecesShown : Type 0 where
  pub judgements : List Judgement
  pub reads : List BadReads

-- what is done for this task stands in the slot of this number; a look leaves nothing to keep
abbrev pub IsKept : History → ℕ → PiecesShown → Task → Type 0
IsKept h n pieces (Judge r) =
    (judgement : Judgement) × (slice_get pieces.judgements n ≡ Some judgement)
    × IsJudged (register_of h r.0) judgement
IsKept h n pieces (Reads r from to) =
    (reads : BadReads) × (slice_get pieces.reads n ≡ Some reads) × AreFirstBad h r.0 from to reads
IsKept h n pieces (First r) = Unit {0}

-- the task of this number, if there is one, has what is done for it in its slot
abbrev pub IsDoneAt : History → List Task → PiecesShown → ℕ → Type 0
IsDoneAt h tasks pieces n = (t : Task) → slice_get tasks n ≡ Some t → IsKept h n pieces t

-- from this number on, each task has what is done for it in its slot
abbrev pub AreDoneFrom : ℕ → History → List Task → PiecesShown → Type 0
AreDoneFrom n h tasks pieces = (i : ℕ) (t : Task) → n ≤ i → slice_get tasks i ≡ Some t → IsKept h i pieces t

-- each task has what is done for it in its slot
abbrev pub AreDone : History → List Task → PiecesShown → Type 0
AreDone h tasks pieces = AreDoneFrom 0 h tasks pieces

-- each number is below the count
abbrev pub AreWithin : ℕ → List (ℕ × Piece) → Type 0
AreWithin count done = (i : ℕ) (d : ℕ × Piece) → slice_get done i ≡ Some d → d.0 < count

-- the slots with one judgement, or with the first bad reads of one cut
abbrev pub with_judgement : PiecesShown → ℕ → Judgement → PiecesShown
with_judgement pieces n judgement = record {
  judgements = set pieces.judgements n judgement;
  reads = pieces.reads;
}

abbrev pub with_reads : PiecesShown → ℕ → BadReads → PiecesShown
with_reads pieces n reads = record { judgements = pieces.judgements; reads = set pieces.reads n reads }

-- the slots with one piece in its own
abbrev pub with_piece : PiecesShown → ℕ → Piece → PiecesShown
with_piece pieces n (piece.Judged judgement) = with_judgement pieces n judgement
with_piece pieces n (piece.Reads reads) = with_reads pieces n reads
with_piece pieces n piece.Clean = pieces
with_piece pieces n piece.Skipped = pieces

-- the slots with what is done in them; of two pieces of one number and kind the first one stands
abbrev pub with_pieces : PiecesShown → List (ℕ × Piece) → PiecesShown
with_pieces pieces [] = pieces
with_pieces pieces (d ∷ ds) = with_piece (with_pieces pieces ds) d.0 d.1

-- the slots without the judgement of this number
abbrev pub without_judgement : PiecesShown → ℕ → PiecesShown
without_judgement pieces n = with_judgement pieces n no_judgement
