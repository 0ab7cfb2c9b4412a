-- The bytes of a report: compact JSON (RFC 8259), a line for each register and
-- one for the summary, keys in byte order.
use Rattle.std.specs.Prelude.{ℕ, codes, List, [], ◌∷◌, ◌++◌, length, map}
use Rattle.std.specs.List.{concat}
use Rattle.serde_json.specs.Data.{Data, string}
use Rattle.report_text.specs.JsonFields.Fields.{Field, always, shown, number_json, numbers_json}
use Rattle.report_text.specs.JsonFields.Fields.{object_json, line_text}
use Rattle.report_text.specs.declared.search.report.ReachedBound.{ReachedBound}
use Rattle.report_text.specs.declared.search.report.ReachedBound.TheVariants.{Configurations, Steps}
use Rattle.report_text.specs.declared.search.report.Outcome.{Outcome}
use Rattle.report_text.specs.declared.search.report.Outcome.TheVariants as outcome
use Rattle.report_text.specs.declared.search.report.Atomicity.{Atomicity}
use Rattle.report_text.specs.declared.search.report.Atomicity.TheVariants.{Yes, No, Unknown}
use Rattle.report_text.specs.declared.search.report.Fault.{Fault}
use Rattle.report_text.specs.declared.search.report.Fault.TheVariants.{Unwritten, Search}
use Rattle.report_text.specs.declared.search.report.RegisterReport.{RegisterReport}
use Rattle.report_text.specs.declared.search.report.Report.{Report}

abbrev pub fault_parts : Fault → List (List Field)
fault_parts (Unwritten call) =
    always (codes "call") (number_json call) ∷ always (codes "kind") (string (codes "unwritten")) ∷ []
fault_parts (Search asks before reply) =
    always (codes "asks") (numbers_json asks.items)
    ∷ shown (codes "before") (λ lines. numbers_json lines.items) before
    ∷ always (codes "kind") (string (codes "search"))
    ∷ always (codes "reply") (number_json reply)
    ∷ []

abbrev pub bound_json : ReachedBound → Data
bound_json Configurations = string (codes "configurations")
bound_json Steps = string (codes "steps")

abbrev pub gave_up_parts : ReachedBound → List (List Field)
gave_up_parts bound = always (codes "bound") (bound_json bound) ∷ []

-- the counts, name and all else of a register's line that doesn't hang on whether it is atomic
abbrev pub cas_field : RegisterReport → List Field
cas_field reg = always (codes "cas") (number_json reg.cas)

abbrev pub pending_field : RegisterReport → List Field
pending_field reg = always (codes "pending") (number_json reg.pending)

abbrev pub last_fields : RegisterReport → List (List Field)
last_fields reg =
    always (codes "reads") (number_json reg.reads) ∷ always (codes "register") (string reg.register)
    ∷ always (codes "writes") (number_json reg.writes) ∷ []

-- the parts of a register's line, each of them one field or none
abbrev pub register_parts : RegisterReport → Atomicity → List (List Field)
register_parts reg (Yes order points) =
    always (codes "atomic") (string (codes "yes"))
    ∷ cas_field reg
    ∷ always (codes "order") (numbers_json order.items)
    ∷ pending_field reg
    ∷ always (codes "points") (numbers_json points.items)
    ∷ last_fields reg
register_parts reg (No fault) =
    always (codes "atomic") (string (codes "no"))
    ∷ cas_field reg
    ∷ always (codes "fault") (object_json (fault_parts fault))
    ∷ pending_field reg
    ∷ last_fields reg
register_parts reg (Unknown bound) =
    always (codes "atomic") (string (codes "unknown"))
    ∷ cas_field reg
    ∷ always (codes "gave_up") (object_json (gave_up_parts bound))
    ∷ pending_field reg
    ∷ last_fields reg

abbrev pub register_json : RegisterReport → Data
register_json reg = object_json (register_parts reg reg.atomicity)

abbrev pub outcome_json : Outcome → Data
outcome_json outcome.Yes = string (codes "yes")
outcome_json outcome.No = string (codes "no")
outcome_json outcome.Unknown = string (codes "unknown")

abbrev pub summary_parts : Report → List (List Field)
summary_parts report =
    always (codes "atomic") (outcome_json report.atomic)
    ∷ always (codes "operations") (number_json report.operations)
    ∷ always (codes "registers") (number_json (length report.registers.items))
    ∷ []

abbrev pub summary_json : Report → Data
summary_json report = object_json (summary_parts report)

-- the lines of some registers
abbrev pub registers_text : List RegisterReport → List ℕ
registers_text regs = concat (map (λ reg. line_text (register_json reg)) regs)

-- the bytes of a report
abbrev pub report_text : Report → List ℕ
report_text report = registers_text report.registers.items ++ line_text (summary_json report)
