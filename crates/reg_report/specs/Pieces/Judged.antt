-- Whether a register is atomic.
use Rattle.std.specs.Prelude.{List, [], Bool, true, false}
use Rattle.history_model.specs.Legal.{IsAtomic}
use Rattle.history_model.specs.declared.operation.Operation.{Operation}
use Rattle.reg_zones.specs.Faults.{IsFault}
use Rattle.reg_zones.specs.Order.{IsOrder}
use Rattle.reg_report.specs.declared.pieces.judgement.Judgement.{Judgement}
use Rattle.reg_report.specs.declared.pieces.judgement.Judgement.TheVariants.{Order, Faulty}
use Rattle.reg_report.specs.declared.pieces.piece.Piece.{Piece}
use Rattle.reg_report.specs.declared.pieces.piece.Piece.TheVariants.{Judged, Reads, Clean, Skipped}

-- the canonical order of atomic operations, or the fault of others
abbrev pub IsJudged : List Operation → Judgement → Type 0
IsJudged ops (Order order) = IsAtomic ops × IsOrder ops order
IsJudged ops (Faulty fault) = (IsAtomic ops → ⊥) × IsFault ops fault

-- what stands where no judgement is: the order of no operations
abbrev pub no_judgement : Judgement
no_judgement = Order []

-- that the operations are atomic, or the fault of others; nothing is said of a register that was skipped
abbrev pub IsLookedAt : List Operation → Piece → Type 0
IsLookedAt ops (Judged (Order order)) = ⊥
IsLookedAt ops (Judged (Faulty fault)) = (IsAtomic ops → ⊥) × IsFault ops fault
IsLookedAt ops (Reads reads) = ⊥
IsLookedAt ops Clean = IsAtomic ops
IsLookedAt ops Skipped = Unit {0}

-- whether a piece is a fault
abbrev pub is_faulty : Piece → Bool
is_faulty (Judged (Order order)) = false
is_faulty (Judged (Faulty fault)) = true
is_faulty (Reads reads) = false
is_faulty Clean = false
is_faulty Skipped = false
