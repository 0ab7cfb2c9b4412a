-- What a look at a register is as a piece of work.
use Rattle.reg_report.specs.declared.pieces.judgement.Judgement.TheVariants as judgement
use Rattle.reg_report.specs.declared.pieces.look.Look.{Look}
use Rattle.reg_report.specs.declared.pieces.look.Look.TheVariants.{Clean, Faulty, Skipped}
use Rattle.reg_report.specs.declared.pieces.piece.Piece.{Piece}
use Rattle.reg_report.specs.declared.pieces.piece.Piece.TheVariants as piece

-- a fault is a judgement
abbrev pub piece_of : Look → Piece
piece_of Clean = piece.Clean
piece_of (Faulty fault) = piece.Judged (judgement.Faulty fault)
piece_of Skipped = piece.Skipped
