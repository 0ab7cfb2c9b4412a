-- How many fields the lines of a report have, and that none of their values is a float.
use Rattle.std.proofs.Common.{◌≡◌, ℕ, ◌+◌, length, false, refl, arith, codes}
use Rattle.std.specs.Prelude.{is_some, if◌then◌else◌}
use Rattle.serde_json.specs.Data.{string}
use Rattle.serde_json.specs.Written.{has_float}
use Rattle.report_text.specs.JsonFields.Fields.{fields_of, number_json, numbers_json, pair_json, yes_or_no}
use Rattle.report_text.proofs.JsonFieldLemmas.Fields.{length-fields_of, one_when, parts_len, shown_len}
use Rattle.report_text.proofs.JsonFieldLemmas.Fields.{plain_always, plain_number, plain_numbers, plain_pair}
use Rattle.report_text.proofs.JsonFieldLemmas.Fields.{plain_parts}
use Rattle.report_text.proofs.JsonFieldLemmas.Fields.{plain_shown, plain_yes}
use Rattle.report_text.specs.Check.Text.{verdict_json, fault_json}
use Rattle.report_text.specs.Check.Text.{register_parts, register_json, summary_parts, summary_json}
use Rattle.report_text.specs.declared.check.report.Verdict.{Verdict}
use Rattle.report_text.specs.declared.check.report.Verdict.TheVariants.{Yes, No, SeveralWriters}
use Rattle.report_text.specs.declared.check.report.FaultLines.{FaultLines}
use Rattle.report_text.specs.declared.check.report.FaultLines.TheVariants.{Unwritten, Early, Zones}
use Rattle.report_text.specs.declared.check.report.RegReport.{RegReport}
use Rattle.report_text.specs.declared.check.report.Report.{Report}

-- ---- how many fields there are

pub register_parts_len : (reg : RegReport)
    → length (fields_of (register_parts reg)) ≡ 7 + (if is_some reg.fault then 1
    else 0) + (if is_some reg.inversion then 1 else 0) + (if is_some reg.order then 1
    else 0) + (if is_some reg.points then 1 else 0) + (if is_some reg.regular_read then 1
    else 0) + (if is_some reg.safe_read then 1 else 0)
unfolding parts_len
register_parts_len reg =
    let whole = length-fields_of (register_parts reg) in
    let a = shown_len (codes "fault") fault_json reg.fault in
    let b = shown_len (codes "inversion") pair_json reg.inversion in
    let c = shown_len (codes "order") numbers_json reg.order in
    let d = shown_len (codes "points") numbers_json reg.points in
    let e = shown_len (codes "regular_read") number_json reg.regular_read in
    let f = shown_len (codes "safe_read") number_json reg.safe_read in
    omega arith

pub register_count : (reg : RegReport) (a b c d e f : ℕ) → a ≡ one_when (is_some reg.fault)
    → b ≡ one_when (is_some reg.inversion) → c ≡ one_when (is_some reg.order)
    → d ≡ one_when (is_some reg.points) → e ≡ one_when (is_some reg.regular_read)
    → f ≡ one_when (is_some reg.safe_read)
    → 7 + a + b + c + d + e + f ≡ length (fields_of (register_parts reg))
register_count reg a b c d e f ha hb hc hd he hf = let whole = register_parts_len reg in omega arith

pub summary_count : (report : Report) (a : ℕ) → a ≡ one_when (is_some report.order)
    → 3 + a ≡ length (fields_of (summary_parts report))
unfolding parts_len
summary_count report a h =
    let whole = length-fields_of (summary_parts report) in
    let b = shown_len (codes "order") numbers_json report.order in
    omega arith

-- ---- no floats

plain_verdict : (v : Verdict) → has_float (verdict_json v) ≡ false
plain_verdict Yes = refl
plain_verdict No = refl
plain_verdict SeveralWriters = refl

plain_fault : (f : FaultLines) → has_float (fault_json f) ≡ false
plain_fault (Unwritten r) = refl
plain_fault (Early r w) = refl
plain_fault (Zones w f s) = refl

pub register_has_no_float : (reg : RegReport) → has_float (register_json reg) ≡ false
register_has_no_float reg = plain_parts (register_parts reg) (
  plain_always (codes "atomic") (yes_or_no reg.atomic) (plain_yes reg.atomic),
  (
    plain_shown (codes "fault") fault_json reg.fault plain_fault,
    (
      plain_shown (codes "inversion") pair_json reg.inversion plain_pair,
      (
        plain_shown (codes "order") numbers_json reg.order plain_numbers,
        (
          plain_always (codes "pending") (number_json reg.pending) refl,
          (
            plain_shown (codes "points") numbers_json reg.points plain_numbers,
            (
              plain_always (codes "reads") (number_json reg.reads) refl,
              (
                plain_always (codes "register") (string reg.register) refl,
                (
                  plain_always (codes "regular") (verdict_json reg.regular) (plain_verdict reg.regular),
                  (
                    plain_shown (codes "regular_read") number_json reg.regular_read plain_number,
                    (
                      plain_always (codes "safe") (verdict_json reg.safe) (plain_verdict reg.safe),
                      (
                        plain_shown (codes "safe_read") number_json reg.safe_read plain_number,
                        (
                          plain_always (codes "writes") (number_json reg.writes) refl,
                          tt,
                        ),
                      ),
                    ),
                  ),
                ),
              ),
            ),
          ),
        ),
      ),
    ),
  ),
)

pub summary_has_no_float : (report : Report) → has_float (summary_json report) ≡ false
summary_has_no_float report = plain_parts (summary_parts report) (
  plain_always (codes "atomic") (yes_or_no report.atomic) (plain_yes report.atomic),
  (
    plain_always (codes "operations") (number_json report.operations) refl,
    (
      plain_shown (codes "order") numbers_json report.order plain_numbers,
      (
        plain_always (codes "registers") (number_json report.registers) refl,
        tt,
      ),
    ),
  ),
)
