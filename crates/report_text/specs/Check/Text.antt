-- The bytes of a report: compact JSON (RFC 8259), a line for each register and
-- one for the summary, keys in byte order.
use Rattle.std.specs.Prelude.{ℕ, codes, List, [], ◌∷◌, ◌++◌, map}
use Rattle.std.specs.List.{concat}
use Rattle.serde_json.specs.Data.{Data, string}
use Rattle.report_text.specs.JsonFields.Fields.{Field, always, shown, number_json, numbers_json}
use Rattle.report_text.specs.JsonFields.Fields.{object_json, pair_json, yes_or_no}
pub use Rattle.report_text.specs.JsonFields.Fields.{line_text}
use Rattle.report_text.specs.declared.check.report.Verdict.{Verdict}
use Rattle.report_text.specs.declared.check.report.Verdict.TheVariants.{Yes, No, SeveralWriters}
use Rattle.report_text.specs.declared.check.report.FaultLines.{FaultLines}
use Rattle.report_text.specs.declared.check.report.FaultLines.TheVariants.{Unwritten, Early, Zones}
use Rattle.report_text.specs.declared.check.report.RegReport.{RegReport}
use Rattle.report_text.specs.declared.check.report.Report.{Report}

abbrev pub verdict_json : Verdict → Data
verdict_json Yes = string (codes "yes")
verdict_json No = string (codes "no")
verdict_json SeveralWriters = string (codes "several writers")

abbrev pub fault_parts : FaultLines → List (List Field)
fault_parts (Unwritten r) =
    always (codes "kind") (string (codes "unwritten")) ∷ always (codes "read") (number_json r) ∷ []
fault_parts (Early r w) =
    always (codes "kind") (string (codes "early")) ∷ always (codes "read") (number_json r)
    ∷ always (codes "write") (number_json w) ∷ []
fault_parts (Zones writes first second) =
    always (codes "first") (pair_json first) ∷ always (codes "kind") (string (codes "zones"))
    ∷ always (codes "second") (pair_json second) ∷ always (codes "writes") (pair_json writes) ∷ []

abbrev pub fault_json : FaultLines → Data
fault_json fault = object_json (fault_parts fault)

-- the parts of a register's line, each of them one field or none
abbrev pub register_parts : RegReport → List (List Field)
register_parts reg =
    always (codes "atomic") (yes_or_no reg.atomic)
    ∷ shown (codes "fault") fault_json reg.fault
    ∷ shown (codes "inversion") pair_json reg.inversion
    ∷ shown (codes "order") numbers_json reg.order
    ∷ always (codes "pending") (number_json reg.pending)
    ∷ shown (codes "points") numbers_json reg.points
    ∷ always (codes "reads") (number_json reg.reads)
    ∷ always (codes "register") (string reg.register)
    ∷ always (codes "regular") (verdict_json reg.regular)
    ∷ shown (codes "regular_read") number_json reg.regular_read
    ∷ always (codes "safe") (verdict_json reg.safe)
    ∷ shown (codes "safe_read") number_json reg.safe_read
    ∷ always (codes "writes") (number_json reg.writes)
    ∷ []

abbrev pub register_json : RegReport → Data
register_json reg = object_json (register_parts reg)

abbrev pub summary_parts : Report → List (List Field)
summary_parts report =
    always (codes "atomic") (yes_or_no report.atomic)
    ∷ always (codes "operations") (number_json report.operations)
    ∷ shown (codes "order") numbers_json report.order
    ∷ always (codes "registers") (number_json report.registers)
    ∷ []

abbrev pub summary_json : Report → Data
summary_json report = object_json (summary_parts report)

-- the lines of some registers
abbrev pub registers_text : List RegReport → List ℕ
registers_text regs = concat (map (λ reg. line_text (register_json reg)) regs)

-- the bytes of a report
abbrev pub report_text : Report → List ℕ
report_text report = registers_text report.regs ++ line_text (summary_json report)
