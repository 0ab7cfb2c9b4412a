-- How many items a list of pairs has, and that none of the values of a report is a float.
use Rattle.std.proofs.Common.{◌≡◌, ℕ, List, [], ◌∷◌, length, map, false, refl, arith, codes}
use Rattle.std.specs.Global.{Global}
use Rattle.std.specs.Prelude.{Vec}
use Rattle.serde_json.specs.Data.{string}
use Rattle.serde_json.specs.Events.{items_len}
use Rattle.serde_json.specs.Written.{has_float}
use Rattle.report_text.specs.JsonFields.Fields.{items_of, number_json, numbers_json, pair_json, yes_or_no}
use Rattle.report_text.proofs.JsonFieldLemmas.Fields.{AllPlain, plain_always, plain_fields, plain_number}
use Rattle.report_text.proofs.JsonFieldLemmas.Fields.{plain_numbers, plain_parts, plain_shown, plain_yes}
use Rattle.report_text.specs.Level.Text.{early_json, fault_json, first_parts, first_totals, gap_json}
use Rattle.report_text.specs.Level.Text.{last_parts}
use Rattle.report_text.specs.Level.Text.{last_totals, level_json, missed_json, pairs_json, register_json}
use Rattle.report_text.specs.Level.Text.{register_parts, second_parts, second_totals, third_parts}
use Rattle.report_text.specs.Level.Text.{totals_json}
use Rattle.report_text.specs.Level.Text.{totals_parts}
use Rattle.report_text.specs.Level.Causal.{causal_parts}
use Rattle.report_text.proofs.LevelLemmas.CausalFields.{plain_causal}
use Rattle.report_text.specs.Level.Text.{fault_parts, went_back_json}
use Rattle.report_text.specs.declared.level.report.MissedWrite.{MissedWrite}
use Rattle.report_text.specs.declared.level.report.WentBack.{WentBack}
use Rattle.report_text.specs.declared.level.report.EarlyRead.{EarlyRead}
use Rattle.report_text.specs.declared.level.report.GapLines.{GapLines}
use Rattle.report_text.specs.declared.level.report.FaultLines.{FaultLines}
use Rattle.report_text.specs.declared.level.report.FaultLines.TheVariants.{Unwritten, Early, Cycle}
use Rattle.report_text.specs.declared.level.report.OrderLines.{OrderLines}
use Rattle.report_text.specs.declared.level.report.RegisterLevels.{RegisterLevels}
use Rattle.report_text.specs.declared.level.report.Totals.{Totals}

pub items_len-pairs : (ps : List (ℕ × ℕ)) → items_len (items_of (map pair_json ps)) ≡ length ps
items_len-pairs [] = refl
items_len-pairs (p ∷ ps) = let e = items_len-pairs ps in grind arith

-- ---- no floats

plain_pairs : (ps : List (ℕ × ℕ)) → has_float (pairs_json ps) ≡ false
plain_pairs [] = refl
plain_pairs (p ∷ ps) = plain_pairs ps

plain_missed : (m : MissedWrite) → has_float (missed_json m) ≡ false
plain_missed m = refl

plain_went_back : (b : WentBack) → has_float (went_back_json b) ≡ false
plain_went_back b = refl

plain_early : (e : EarlyRead) → has_float (early_json e) ≡ false
plain_early e = refl

plain_gap : (g : GapLines) → has_float (gap_json g) ≡ false
plain_gap g = refl

plain_fault : (fault : FaultLines) → has_float (fault_json fault) ≡ false
plain_fault (Unwritten read) = refl
plain_fault (Early read write) = refl
plain_fault (Cycle steps writes) = plain_parts (fault_parts (Cycle steps writes)) (
  plain_always (codes "kind") (string (codes "cycle")) refl,
  (
    plain_always (codes "steps") (pairs_json steps.items) (plain_pairs steps.items),
    (plain_always (codes "writes") (numbers_json writes.items) (plain_numbers writes.items), tt),
  ),
)

plain_first : (reg : RegisterLevels) → AllPlain (first_parts reg)
plain_first reg = (
  plain_always (codes "atomic") (yes_or_no reg.freshness.atomic) (plain_yes reg.freshness.atomic),
  (
    plain_shown (codes "back") number_json reg.freshness.back plain_number,
    (
      plain_shown (codes "back_read") went_back_json reg.freshness.back_read plain_went_back,
      (
        plain_shown (codes "early") early_json reg.freshness.early plain_early,
        (
          plain_shown (codes "gap") gap_json reg.freshness.gap plain_gap,
          (
            plain_shown (codes "inverted") number_json reg.freshness.inverted plain_number,
            (
              plain_shown (codes "inverted_read") went_back_json reg.freshness.inverted_read plain_went_back,
              (
                plain_shown (codes "lost") number_json reg.freshness.lost plain_number,
                (
                  plain_shown (codes "lost_write") number_json reg.freshness.lost_write plain_number,
                  tt,
                ),
              ),
            ),
          ),
        ),
      ),
    ),
  ),
)

plain_second : (reg : RegisterLevels) → AllPlain (second_parts reg)
plain_second reg = (
  plain_shown (codes "monotonic") yes_or_no reg.guarantees.monotonic plain_yes,
  (
    plain_shown (codes "monotonic_fault") fault_json reg.guarantees.monotonic_fault plain_fault,
    (
      plain_shown (codes "order") (λ (order : OrderLines). numbers_json order.lines.items) reg.order (λ
          order. plain_numbers order.lines.items),
      (
        plain_shown (codes "order_of") (λ (order : OrderLines). level_json order.level) reg.order (λ order.
            refl),
        (
          plain_shown (codes "own") number_json reg.freshness.own plain_number,
          (
            plain_shown (codes "own_read") missed_json reg.freshness.own_read plain_missed,
            (
              plain_shown (codes "own_writes") yes_or_no reg.guarantees.own_writes plain_yes,
              (
                plain_shown (codes "own_writes_fault") fault_json reg.guarantees.own_writes_fault plain_fault,
                tt,
              ),
            ),
          ),
        ),
      ),
    ),
  ),
)

plain_third : (reg : RegisterLevels) → AllPlain (third_parts reg)
plain_third reg = (
  plain_always (codes "pending") (number_json reg.operations.pending) refl,
  (
    plain_always (codes "reads") (number_json reg.operations.reads) refl,
    (
      plain_always (codes "register") (string reg.register) refl,
      (
        plain_always (codes "regular") (yes_or_no reg.freshness.regular) (plain_yes reg.freshness.regular),
        (
          plain_always (codes "sequential") (yes_or_no reg.guarantees.sequential) (plain_yes
              reg.guarantees.sequential),
          (
            plain_shown (codes "sequential_fault") fault_json reg.guarantees.sequential_fault plain_fault,
            (
              plain_always (codes "session") (yes_or_no reg.guarantees.session) (plain_yes
                  reg.guarantees.session),
              (
                plain_shown (codes "session_fault") fault_json reg.guarantees.session_fault plain_fault,
                tt,
              ),
            ),
          ),
        ),
      ),
    ),
  ),
)

plain_last : (reg : RegisterLevels) → AllPlain (last_parts reg)
plain_last reg = (
  plain_shown (codes "stale") number_json reg.freshness.stale plain_number,
  (
    plain_shown (codes "stale_read") missed_json reg.freshness.stale_read plain_missed,
    (
      plain_shown (codes "stale_reads") (λ (pairs : Vec (ℕ × ℕ) Global). pairs_json pairs.items)
          reg.freshness.stale_reads (λ pairs. plain_pairs pairs.items),
      (
        plain_shown (codes "unwritten") number_json reg.freshness.unwritten plain_number,
        (
          plain_always (codes "writes") (number_json reg.operations.writes) refl,
          tt,
        ),
      ),
    ),
  ),
)

plain_first_totals : (totals : Totals) → AllPlain (first_totals totals)
plain_first_totals totals = (
  plain_always (codes "atomic") (yes_or_no totals.atomic) (plain_yes totals.atomic),
  (plain_always (codes "back") (number_json totals.back) refl, tt),
)

plain_second_totals : (totals : Totals) → AllPlain (second_totals totals)
plain_second_totals totals = (
  plain_shown (codes "gap") number_json totals.gap plain_number,
  (
    plain_always (codes "inverted") (number_json totals.inverted) refl,
    (
      plain_always (codes "lost") (number_json totals.lost) refl,
      (
        plain_shown (codes "monotonic") yes_or_no totals.monotonic plain_yes,
        (
          plain_always (codes "operations") (number_json totals.operations) refl,
          (
            plain_always (codes "own") (number_json totals.own) refl,
            (plain_shown (codes "own_writes") yes_or_no totals.own_writes plain_yes, tt),
          ),
        ),
      ),
    ),
  ),
)

plain_last_totals : (totals : Totals) → AllPlain (last_totals totals)
plain_last_totals totals = (
  plain_always (codes "reads") (number_json totals.reads) refl,
  (
    plain_always (codes "registers") (number_json totals.registers) refl,
    (
      plain_always (codes "regular") (yes_or_no totals.regular) (plain_yes totals.regular),
      (
        plain_always (codes "sequential") (yes_or_no totals.sequential) (plain_yes totals.sequential),
        (
          plain_always (codes "session") (yes_or_no totals.session) (plain_yes totals.session),
          (
            plain_always (codes "stale") (number_json totals.stale) refl,
            (
              plain_shown (codes "unclean") number_json totals.unclean plain_number,
              tt,
            ),
          ),
        ),
      ),
    ),
  ),
)

pub register_has_no_float : (reg : RegisterLevels) → has_float (register_json reg) ≡ false
register_has_no_float reg = plain_parts (register_parts reg) (
  plain_fields (first_parts reg) (plain_first reg),
  (
    plain_fields (second_parts reg) (plain_second reg),
    (
      plain_fields (third_parts reg) (plain_third reg),
      (plain_fields (last_parts reg) (plain_last reg), tt),
    ),
  ),
)

pub totals_have_no_float : (totals : Totals) → has_float (totals_json totals) ≡ false
totals_have_no_float totals = plain_parts (totals_parts totals) (
  plain_fields (first_totals totals) (plain_first_totals totals),
  (
    plain_fields (causal_parts totals.causal) (plain_causal totals.causal),
    (
      plain_fields (second_totals totals) (plain_second_totals totals),
      (plain_fields (last_totals totals) (plain_last_totals totals), tt),
    ),
  ),
)
