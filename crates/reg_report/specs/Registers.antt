-- What is found of all registers, their lines and their orders.
use Rattle.std.specs.Prelude.{◌≡◌, ◌<◌, ℕ, List, length, slice_get, Option, Some, None, Vec}
use Rattle.std.specs.Global.{Global}
use Rattle.history_model.specs.History.{History}
use Rattle.history_model.specs.Legal.{IsAtomic}
use Rattle.reg_report.specs.Pieces.Judged.{IsJudged}
use Rattle.reg_zones.specs.declared.placed.Placed.{Placed}
use Rattle.reg_report.specs.Levels.{AreLevels}
use Rattle.reg_report.specs.Lines.{call_line, lines_by}
use Rattle.reg_report.specs.Meaning.{IsRegisterReport, calls_of}
use Rattle.reg_report.specs.Merged.{AreGathered, IsMergedAnswer}
use Rattle.reg_report.specs.Tally.{IsTally}
use Rattle.history_model.specs.Operations.{register_of}
use Rattle.reg_report.specs.declared.findings.Finding.{Finding}
use Rattle.report_text.specs.declared.check.report.RegReport.{RegReport}

-- what is found of a register is so
pub record IsFinding (h : History) (finding : Finding) : Type 0 where
  pub inside : finding.register.0 < length h.names
  pub judged : IsJudged (register_of h finding.register.0) finding.judged
  pub levels : AreLevels (register_of h finding.register.0) finding.levels
  pub tally : IsTally (calls_of h finding.register.0) finding.tally

-- what is found of the registers below n, by number
pub record AreFirstFindings (h : History) (n : ℕ) (findings : List Finding) : Type 0 where
  pub count : length findings ≡ n
  pub each : (r : ℕ) (finding : Finding) → slice_get findings r ≡ Some finding
      → (finding.register.0 ≡ r) × IsFinding h finding

-- what is found of all registers
abbrev pub AreFindings : History → List Finding → Type 0
AreFindings h findings = AreFirstFindings h (length h.names) findings

-- the lines of the registers below n
pub record AreFirstLines (h : History) (n : ℕ) (regs : List RegReport) : Type 0 where
  pub lines : length regs ≡ n
  pub each : (r : ℕ) (reg : RegReport) → slice_get regs r ≡ Some reg → IsRegisterReport h r reg

-- the lines of all registers
abbrev pub AreLines : History → List RegReport → Type 0
AreLines h regs = AreFirstLines h (length h.names) regs

-- some register isn't atomic
abbrev pub IsSomeNotAtomic : History → Type 0
IsSomeNotAtomic h = (r : ℕ) × (r < length h.names) × (IsAtomic (register_of h r) → ⊥)

-- the canonical orders of all registers, one after another, or one of these isn't atomic
abbrev pub AreGatheredIfAtomic : History → Option (Vec Placed Global) → Type 0
AreGatheredIfAtomic h (Some gathered) = AreGathered h (length h.names) gathered.items
AreGatheredIfAtomic h None = IsSomeNotAtomic h

-- the merged order of all registers, or one of these isn't atomic
abbrev pub IsMergedIfAtomic : History → Option (Vec Placed Global) → Type 0
IsMergedIfAtomic h (Some merged) = IsMergedAnswer h merged.items
IsMergedIfAtomic h None = IsSomeNotAtomic h

-- the lines of the merged order
abbrev pub AreMergedLines : History → List ℕ → Type 0
AreMergedLines h lines =
    (merged : List Placed) × IsMergedAnswer h merged × (lines ≡ lines_by (call_line h.events) merged)
