-- What the report of the first register that isn't atomic says.
use Rattle.std.specs.Prelude.{◌≡◌, ℕ, List, [], ◌∷◌, length, Bool, true, false, None}
use Rattle.history_model.specs.History.{History}
use Rattle.history_model.specs.Legal.{IsAtomic}
use Rattle.history_model.specs.Operations.{calls, operations}
use Rattle.reg_report.specs.Pieces.Workers.{IsFirstFaulty}
use Rattle.reg_report.specs.Meaning.{IsRegisterReport, IsReport}
use Rattle.report_text.specs.declared.check.report.RegReport.{RegReport}
use Rattle.report_text.specs.declared.check.report.Report.{Report}

-- the whole history is atomic, and there is no line; or it isn't, and there is the line of the first
-- register by appearance that isn't atomic
abbrev pub AreFoundLines : History → Bool → List RegReport → Type 0
AreFoundLines h true regs = IsAtomic (operations h) × (regs ≡ [])
AreFoundLines h false regs =
    (IsAtomic (operations h) → ⊥)
    × ((r : ℕ) × (reg : RegReport) × IsFirstFaulty h r × IsRegisterReport h r reg × (regs ≡ reg ∷ []))

-- the report of the first register that isn't atomic: its line, if there is one, and the summary, without an
-- order and with the counts of the whole history
pub record IsFirstReport (h : History) (report : Report) : Type 0 where
  pub lines : AreFoundLines h report.atomic report.regs
  pub called : report.operations ≡ length (calls h.events)
  pub named : report.registers ≡ length h.names
  pub unordered : report.order ≡ None

-- the report that is asked for: that of the first register that isn't atomic, or that of the whole history
abbrev pub IsReportBy : Bool → History → Report → Type 0
IsReportBy true h report = IsFirstReport h report
IsReportBy false h report = IsReport h report
