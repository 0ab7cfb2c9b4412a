-- The text of a report, made from what is found of its registers.
use Rattle.std.specs.Prelude.{◌≡◌, ℕ, List, Bool, flat_map}
use Rattle.std.specs.List.{AllZip}
use Rattle.history_model.specs.History.{History}
use Rattle.reg_report.specs.Answer.{outcome_of}
use Rattle.reg_report.specs.First.{IsReportBy}
use Rattle.reg_report.specs.Meaning.{IsRegisterReport}
use Rattle.reg_report.specs.Registers.{AreLines}
use Rattle.report_text.specs.Check.Text.{registers_text, report_text}
use Rattle.reg_report.specs.declared.findings.Finding.{Finding}
use Rattle.reg_report.specs.declared.findings_text.ReportText.{ReportText}
use Rattle.report_text.specs.declared.check.report.RegReport.{RegReport}
use Rattle.report_text.specs.declared.check.report.Report.{Report}

-- the lines of the registers of which something is found, place by place
abbrev pub AreLinesOf : History → List Finding → List RegReport → Type 0
AreLinesOf h findings regs = AllZip (λ finding reg. IsRegisterReport h finding.register.0 reg) findings regs

-- the text of the lines of these registers
abbrev pub IsTextOf : History → List Finding → List ℕ → Type 0
IsTextOf h findings bytes =
    (regs : List RegReport) × AreLinesOf h findings regs × (bytes ≡ registers_text regs)

-- the text of the lines of all registers
abbrev pub IsLinesText : History → List ℕ → Type 0
IsLinesText h bytes = (regs : List RegReport) × AreLines h regs × (bytes ≡ registers_text regs)

-- the bytes of the report that is asked for, in parts, and its outcome
abbrev pub IsReportText : Bool → History → ReportText → Type 0
IsReportText first h text =
    (report : Report) × IsReportBy first h report
    × (flat_map (λ part. part.items) text.parts.items ≡ report_text report)
    × (text.outcome ≡ outcome_of report)
