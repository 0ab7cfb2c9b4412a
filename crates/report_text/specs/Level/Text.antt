-- The bytes of a report: compact JSON (RFC 8259), a line for each register and
-- one for the summary, keys in byte order.
use Rattle.std.specs.Global.{Global}
use Rattle.std.specs.Prelude.{ℕ, codes, List, [], ◌∷◌, ◌++◌, map, Vec}
use Rattle.std.specs.List.{concat}
use Rattle.serde_json.specs.Data.{Data, string, array}
use Rattle.report_text.specs.JsonFields.Fields.{Field, always, shown, fields_of, items_of, number_json}
use Rattle.report_text.specs.JsonFields.Fields.{numbers_json, object_json, pair_json, yes_or_no, line_text}
use Rattle.report_text.specs.Level.Causal.{causal_parts}
use Rattle.report_text.specs.Level.Words.{word_of}
use Rattle.report_text.specs.declared.level.report.LevelName.{LevelName}
use Rattle.report_text.specs.declared.level.report.MissedWrite.{MissedWrite}
use Rattle.report_text.specs.declared.level.report.WentBack.{WentBack}
use Rattle.report_text.specs.declared.level.report.EarlyRead.{EarlyRead}
use Rattle.report_text.specs.declared.level.report.GapLines.{GapLines}
use Rattle.report_text.specs.declared.level.report.FaultLines.{FaultLines}
use Rattle.report_text.specs.declared.level.report.FaultLines.TheVariants.{Unwritten, Early, Cycle}
use Rattle.report_text.specs.declared.level.report.RegisterLevels.{RegisterLevels}
use Rattle.report_text.specs.declared.level.report.Totals.{Totals}
use Rattle.report_text.specs.declared.level.report.LevelsReport.{LevelsReport}

-- ---- values

abbrev pub pairs_json : List (ℕ × ℕ) → Data
pairs_json ps = array (items_of (map pair_json ps))

abbrev pub level_json : LevelName → Data
level_json level = string (word_of level)

abbrev pub missed_parts : MissedWrite → List (List Field)
missed_parts m =
    always (codes "newer") (number_json m.newer) ∷ always (codes "read") (number_json m.read)
    ∷ always (codes "seen") (number_json m.seen) ∷ []

abbrev pub missed_json : MissedWrite → Data
missed_json m = object_json (missed_parts m)

abbrev pub went_back_parts : WentBack → List (List Field)
went_back_parts b =
    always (codes "earlier") (number_json b.earlier) ∷ always (codes "newer") (number_json b.newer)
    ∷ always (codes "read") (number_json b.read) ∷ always (codes "seen") (number_json b.seen) ∷ []

abbrev pub went_back_json : WentBack → Data
went_back_json b = object_json (went_back_parts b)

abbrev pub early_parts : EarlyRead → List (List Field)
early_parts e =
    always (codes "read") (number_json e.read) ∷ always (codes "write") (number_json e.write) ∷ []

abbrev pub early_json : EarlyRead → Data
early_json e = object_json (early_parts e)

abbrev pub gap_parts : GapLines → List (List Field)
gap_parts g =
    always (codes "events") (number_json g.events) ∷ always (codes "first") (pair_json g.first)
    ∷ always (codes "second") (pair_json g.second) ∷ always (codes "writes") (pair_json g.writes) ∷ []

abbrev pub gap_json : GapLines → Data
gap_json g = object_json (gap_parts g)

abbrev pub fault_parts : FaultLines → List (List Field)
fault_parts (Unwritten read) =
    always (codes "kind") (string (codes "unwritten")) ∷ always (codes "read") (number_json read) ∷ []
fault_parts (Early read write) =
    always (codes "kind") (string (codes "early")) ∷ always (codes "read") (number_json read)
    ∷ always (codes "write") (number_json write) ∷ []
fault_parts (Cycle steps writes) =
    always (codes "kind") (string (codes "cycle")) ∷ always (codes "steps") (pairs_json steps.items)
    ∷ always (codes "writes") (numbers_json writes.items) ∷ []

abbrev pub fault_json : FaultLines → Data
fault_json fault = object_json (fault_parts fault)

-- ---- a register's line, in four groups of fields

abbrev pub first_parts : RegisterLevels → List (List Field)
first_parts reg =
    always (codes "atomic") (yes_or_no reg.freshness.atomic)
    ∷ shown (codes "back") number_json reg.freshness.back
    ∷ shown (codes "back_read") went_back_json reg.freshness.back_read
    ∷ shown (codes "early") early_json reg.freshness.early
    ∷ shown (codes "gap") gap_json reg.freshness.gap
    ∷ shown (codes "inverted") number_json reg.freshness.inverted
    ∷ shown (codes "inverted_read") went_back_json reg.freshness.inverted_read
    ∷ shown (codes "lost") number_json reg.freshness.lost
    ∷ shown (codes "lost_write") number_json reg.freshness.lost_write
    ∷ []

abbrev pub second_parts : RegisterLevels → List (List Field)
second_parts reg =
    shown (codes "monotonic") yes_or_no reg.guarantees.monotonic
    ∷ shown (codes "monotonic_fault") fault_json reg.guarantees.monotonic_fault
    ∷ shown (codes "order") (λ order. numbers_json order.lines.items) reg.order
    ∷ shown (codes "order_of") (λ order. level_json order.level) reg.order
    ∷ shown (codes "own") number_json reg.freshness.own
    ∷ shown (codes "own_read") missed_json reg.freshness.own_read
    ∷ shown (codes "own_writes") yes_or_no reg.guarantees.own_writes
    ∷ shown (codes "own_writes_fault") fault_json reg.guarantees.own_writes_fault
    ∷ []

abbrev pub third_parts : RegisterLevels → List (List Field)
third_parts reg =
    always (codes "pending") (number_json reg.operations.pending)
    ∷ always (codes "reads") (number_json reg.operations.reads)
    ∷ always (codes "register") (string reg.register)
    ∷ always (codes "regular") (yes_or_no reg.freshness.regular)
    ∷ always (codes "sequential") (yes_or_no reg.guarantees.sequential)
    ∷ shown (codes "sequential_fault") fault_json reg.guarantees.sequential_fault
    ∷ always (codes "session") (yes_or_no reg.guarantees.session)
    ∷ shown (codes "session_fault") fault_json reg.guarantees.session_fault
    ∷ []

abbrev pub last_parts : RegisterLevels → List (List Field)
last_parts reg =
    shown (codes "stale") number_json reg.freshness.stale
    ∷ shown (codes "stale_read") missed_json reg.freshness.stale_read
    ∷ shown (codes "stale_reads") (λ (pairs : Vec (ℕ × ℕ) Global). pairs_json pairs.items)
    reg.freshness.stale_reads
    ∷ shown (codes "unwritten") number_json reg.freshness.unwritten
    ∷ always (codes "writes") (number_json reg.operations.writes)
    ∷ []

abbrev pub register_parts : RegisterLevels → List (List Field)
register_parts reg =
    fields_of (first_parts reg) ∷ fields_of (second_parts reg) ∷ fields_of (third_parts reg)
    ∷ fields_of (last_parts reg) ∷ []

abbrev pub register_json : RegisterLevels → Data
register_json reg = object_json (register_parts reg)

-- ---- the summary, in four groups of fields

abbrev pub first_totals : Totals → List (List Field)
first_totals t =
    always (codes "atomic") (yes_or_no t.atomic) ∷ always (codes "back") (number_json t.back) ∷ []

abbrev pub second_totals : Totals → List (List Field)
second_totals t =
    shown (codes "gap") number_json t.gap
    ∷ always (codes "inverted") (number_json t.inverted)
    ∷ always (codes "lost") (number_json t.lost)
    ∷ shown (codes "monotonic") yes_or_no t.monotonic
    ∷ always (codes "operations") (number_json t.operations)
    ∷ always (codes "own") (number_json t.own)
    ∷ shown (codes "own_writes") yes_or_no t.own_writes
    ∷ []

abbrev pub last_totals : Totals → List (List Field)
last_totals t =
    always (codes "reads") (number_json t.reads)
    ∷ always (codes "registers") (number_json t.registers)
    ∷ always (codes "regular") (yes_or_no t.regular)
    ∷ always (codes "sequential") (yes_or_no t.sequential)
    ∷ always (codes "session") (yes_or_no t.session)
    ∷ always (codes "stale") (number_json t.stale)
    ∷ shown (codes "unclean") number_json t.unclean
    ∷ []

abbrev pub totals_parts : Totals → List (List Field)
totals_parts t =
    fields_of (first_totals t) ∷ fields_of (causal_parts t.causal) ∷ fields_of (second_totals t)
    ∷ fields_of (last_totals t) ∷ []

abbrev pub totals_json : Totals → Data
totals_json t = object_json (totals_parts t)

-- ---- the bytes

-- the lines of some registers
abbrev pub registers_text : List RegisterLevels → List ℕ
registers_text regs = concat (map (λ reg. line_text (register_json reg)) regs)

-- the bytes of a report
abbrev pub report_text : LevelsReport → List ℕ
report_text report = registers_text report.registers.items ++ line_text (totals_json report.totals)
