-- The first reads of a register that aren't safe or regular.
use Rattle.std.specs.Prelude.{ℕ, None}
use Rattle.std.specs.Option.{option_or}
use Rattle.history_model.specs.History.{History}
use Rattle.reg_lamport.specs.Levels.{IsFirstBadNamed}
use Rattle.reg_lamport.specs.declared.level.Level.TheVariants.{Safe, Regular}
use Rattle.reg_report.specs.declared.pieces.bad_reads.BadReads.{BadReads}

-- of the completed reads of register r numbered from `from` up to but not including `to`, the first that
-- isn't safe, and the first that isn't regular
abbrev pub AreFirstBad : History → ℕ → ℕ → ℕ → BadReads → Type 0
AreFirstBad h r from to reads =
    IsFirstBadNamed h r Safe from to reads.safe × IsFirstBadNamed h r Regular from to reads.regular

-- none of either kind
abbrev pub no_reads : BadReads
no_reads = record { safe = None; regular = None }

-- those of two parts, in order
abbrev pub joint_reads : BadReads → BadReads → BadReads
joint_reads reads later = record {
  safe = option_or reads.safe later.safe;
  regular = option_or reads.regular later.regular;
}
