-- None of the values of a report is a float.
use Rattle.std.proofs.Common.{◌≡◌, length, false, refl, codes}
use Rattle.serde_json.specs.Data.{string}
use Rattle.serde_json.specs.Written.{has_float}
use Rattle.report_text.specs.JsonFields.Fields.{number_json, numbers_json, object_json}
use Rattle.report_text.proofs.JsonFieldLemmas.Fields.{AllPlain, plain_always, plain_numbers, plain_parts}
use Rattle.report_text.proofs.JsonFieldLemmas.Fields.{plain_shown}
use Rattle.report_text.specs.declared.search.report.ReachedBound.{ReachedBound}
use Rattle.report_text.specs.declared.search.report.ReachedBound.TheVariants.{Configurations, Steps}
use Rattle.report_text.specs.Search.Text.{bound_json, outcome_json, fault_parts, gave_up_parts, last_fields}
use Rattle.report_text.specs.Search.Text.{register_parts, register_json, summary_parts, summary_json}
use Rattle.report_text.specs.declared.search.report.Outcome.{Outcome}
use Rattle.report_text.specs.declared.search.report.Outcome.TheVariants as outcome
use Rattle.report_text.specs.declared.search.report.Atomicity.{Atomicity}
use Rattle.report_text.specs.declared.search.report.Atomicity.TheVariants.{Yes, No, Unknown}
use Rattle.report_text.specs.declared.search.report.Fault.{Fault}
use Rattle.report_text.specs.declared.search.report.Fault.TheVariants.{Unwritten, Search}
use Rattle.report_text.specs.declared.search.report.RegisterReport.{RegisterReport}
use Rattle.report_text.specs.declared.search.report.Report.{Report}

plain_bound : (bound : ReachedBound) → has_float (bound_json bound) ≡ false
plain_bound Configurations = refl
plain_bound Steps = refl

plain_outcome : (a : Outcome) → has_float (outcome_json a) ≡ false
plain_outcome outcome.Yes = refl
plain_outcome outcome.No = refl
plain_outcome outcome.Unknown = refl

plain_fault : (fault : Fault) → has_float (object_json (fault_parts fault)) ≡ false
plain_fault (Unwritten call) = refl
plain_fault (Search asks before reply) = plain_parts (fault_parts (Search asks before reply)) (
  plain_always (codes "asks") (numbers_json asks.items) (plain_numbers asks.items),
  (
    plain_shown (codes "before") (λ lines. numbers_json lines.items) before (λ lines.
        plain_numbers lines.items),
    (
      plain_always (codes "kind") (string (codes "search")) refl,
      (plain_always (codes "reply") (number_json reply) refl, tt),
    ),
  ),
)

plain_gave_up : (bound : ReachedBound) → has_float (object_json (gave_up_parts bound)) ≡ false
plain_gave_up bound =
    plain_parts (gave_up_parts bound) (
      plain_always (codes "bound") (bound_json bound) (plain_bound bound),
      tt,
    )

plain_last : (reg : RegisterReport) → AllPlain (last_fields reg)
plain_last reg = (
  plain_always (codes "reads") (number_json reg.reads) refl,
  (
    plain_always (codes "register") (string reg.register) refl,
    (plain_always (codes "writes") (number_json reg.writes) refl, tt),
  ),
)

plain_register : (reg : RegisterReport) (a : Atomicity) → AllPlain (register_parts reg a)
plain_register reg (Yes order points) = (
  plain_always (codes "atomic") (string (codes "yes")) refl,
  (
    plain_always (codes "cas") (number_json reg.cas) refl,
    (
      plain_always (codes "order") (numbers_json order.items) (plain_numbers order.items),
      (
        plain_always (codes "pending") (number_json reg.pending) refl,
        (
          plain_always (codes "points") (numbers_json points.items) (plain_numbers points.items),
          plain_last reg,
        ),
      ),
    ),
  ),
)
plain_register reg (No fault) = (
  plain_always (codes "atomic") (string (codes "no")) refl,
  (
    plain_always (codes "cas") (number_json reg.cas) refl,
    (
      plain_always (codes "fault") (object_json (fault_parts fault)) (plain_fault fault),
      (plain_always (codes "pending") (number_json reg.pending) refl, plain_last reg),
    ),
  ),
)
plain_register reg (Unknown bound) = (
  plain_always (codes "atomic") (string (codes "unknown")) refl,
  (
    plain_always (codes "cas") (number_json reg.cas) refl,
    (
      plain_always (codes "gave_up") (object_json (gave_up_parts bound)) (plain_gave_up bound),
      (plain_always (codes "pending") (number_json reg.pending) refl, plain_last reg),
    ),
  ),
)

pub register_has_no_float : (reg : RegisterReport) → has_float (register_json reg) ≡ false
register_has_no_float reg = plain_parts (register_parts reg reg.atomicity) (plain_register reg reg.atomicity)

pub summary_has_no_float : (report : Report) → has_float (summary_json report) ≡ false
summary_has_no_float report = plain_parts (summary_parts report) (
  plain_always (codes "atomic") (outcome_json report.atomic) (plain_outcome report.atomic),
  (
    plain_always (codes "operations") (number_json report.operations) refl,
    (plain_always (codes "registers") (number_json (length report.registers.items)) refl, tt),
  ),
)
