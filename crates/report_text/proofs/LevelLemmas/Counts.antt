-- How many fields the lines of a report have.
use Rattle.std.proofs.Common.{◌≡◌, ℕ, ◌+◌, length, arith, codes}
use Rattle.std.specs.Prelude.{is_some}
use Rattle.report_text.specs.JsonFields.Fields.{fields_of, number_json, numbers_json, yes_or_no}
use Rattle.report_text.proofs.JsonFieldLemmas.Fields.{length-fields_of, one_when, parts_len, shown_len}
use Rattle.report_text.specs.Level.Text.{early_json, fault_json, first_parts, first_totals, gap_json}
use Rattle.report_text.specs.Level.Text.{last_parts}
use Rattle.report_text.specs.Level.Text.{last_totals, level_json, missed_json, register_parts}
use Rattle.report_text.specs.Level.Text.{second_parts, second_totals, third_parts, totals_parts}
use Rattle.report_text.specs.Level.Text.{went_back_json}
use Rattle.report_text.specs.Level.Causal.{causal_parts}
use Rattle.report_text.specs.declared.level.report.OrderLines.{OrderLines}
use Rattle.report_text.specs.declared.level.report.RegisterLevels.{RegisterLevels}
use Rattle.report_text.specs.declared.level.report.Totals.{Totals}

pub first_count : (reg : RegisterLevels) (a b c d e f g h : ℕ)
    → a ≡ one_when (is_some reg.freshness.back)
    → b ≡ one_when (is_some reg.freshness.back_read)
    → c ≡ one_when (is_some reg.freshness.early)
    → d ≡ one_when (is_some reg.freshness.gap)
    → e ≡ one_when (is_some reg.freshness.inverted)
    → f ≡ one_when (is_some reg.freshness.inverted_read)
    → g ≡ one_when (is_some reg.freshness.lost)
    → h ≡ one_when (is_some reg.freshness.lost_write)
    → 1 + a + b + c + d + e + f + g + h ≡ length (fields_of (first_parts reg))
unfolding parts_len
first_count reg a b c d e f g h ha hb hc hd he hf hg hh =
    let whole = length-fields_of (first_parts reg) in
    let sa = shown_len (codes "back") number_json reg.freshness.back in
    let sb = shown_len (codes "back_read") went_back_json reg.freshness.back_read in
    let sc = shown_len (codes "early") early_json reg.freshness.early in
    let sd = shown_len (codes "gap") gap_json reg.freshness.gap in
    let se = shown_len (codes "inverted") number_json reg.freshness.inverted in
    let sf = shown_len (codes "inverted_read") went_back_json reg.freshness.inverted_read in
    let sg = shown_len (codes "lost") number_json reg.freshness.lost in
    let sh = shown_len (codes "lost_write") number_json reg.freshness.lost_write in
    omega arith

pub second_count : (reg : RegisterLevels) (a b c d e f g h : ℕ)
    → a ≡ one_when (is_some reg.guarantees.monotonic)
    → b ≡ one_when (is_some reg.guarantees.monotonic_fault)
    → c ≡ one_when (is_some reg.order)
    → d ≡ one_when (is_some reg.order)
    → e ≡ one_when (is_some reg.freshness.own)
    → f ≡ one_when (is_some reg.freshness.own_read)
    → g ≡ one_when (is_some reg.guarantees.own_writes)
    → h ≡ one_when (is_some reg.guarantees.own_writes_fault)
    → a + b + c + d + e + f + g + h ≡ length (fields_of (second_parts reg))
unfolding parts_len
second_count reg a b c d e f g h ha hb hc hd he hf hg hh =
    let whole = length-fields_of (second_parts reg) in
    let sa = shown_len (codes "monotonic") yes_or_no reg.guarantees.monotonic in
    let sb = shown_len (codes "monotonic_fault") fault_json reg.guarantees.monotonic_fault in
    let sc = shown_len (codes "order") (λ (order : OrderLines). numbers_json order.lines.items) reg.order in
    let sd = shown_len (codes "order_of") (λ (order : OrderLines). level_json order.level) reg.order in
    let se = shown_len (codes "own") number_json reg.freshness.own in
    let sf = shown_len (codes "own_read") missed_json reg.freshness.own_read in
    let sg = shown_len (codes "own_writes") yes_or_no reg.guarantees.own_writes in
    let sh = shown_len (codes "own_writes_fault") fault_json reg.guarantees.own_writes_fault in
    omega arith

pub register_count : (reg : RegisterLevels) (a b c d : ℕ) → a ≡ length (fields_of (first_parts reg))
    → b ≡ length (fields_of (second_parts reg)) → c ≡ length (fields_of (third_parts reg))
    → d ≡ length (fields_of (last_parts reg)) → a + b + c + d ≡ length (fields_of (register_parts reg))
unfolding parts_len
register_count reg a b c d ha hb hc hd = let whole = length-fields_of (register_parts reg) in omega arith

pub totals_count : (totals : Totals) (n a b c d : ℕ) → n ≡ length (fields_of (causal_parts totals.causal))
    → a ≡ one_when (is_some totals.gap) → b ≡ one_when (is_some totals.monotonic)
    → c ≡ one_when (is_some totals.own_writes) → d ≡ one_when (is_some totals.unclean)
    → 12 + n + a + b + c + d ≡ length (fields_of (totals_parts totals))
unfolding parts_len
totals_count totals n a b c d hn ha hb hc hd =
    let whole = length-fields_of (totals_parts totals) in
    let one = length-fields_of (first_totals totals) in
    let middle = length-fields_of (second_totals totals) in
    let other = length-fields_of (last_totals totals) in
    let sa = shown_len (codes "gap") number_json totals.gap in
    let sb = shown_len (codes "monotonic") yes_or_no totals.monotonic in
    let sc = shown_len (codes "own_writes") yes_or_no totals.own_writes in
    let sd = shown_len (codes "unclean") number_json totals.unclean in
    omega arith
