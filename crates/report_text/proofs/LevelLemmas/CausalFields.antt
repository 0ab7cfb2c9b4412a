-- How many fields the parts of a report have that tell of the whole history, and that none is a float.
use Rattle.std.proofs.Common.{◌≡◌, ℕ, ◌+◌, List, [], ◌∷◌, length, map, false, refl, arith, codes}
use Rattle.std.specs.Global.{Global}
use Rattle.std.specs.Prelude.{is_some, Vec}
use Rattle.serde_json.specs.Data.{string}
use Rattle.serde_json.specs.Events.{items_len}
use Rattle.serde_json.specs.Written.{has_float}
use Rattle.report_text.specs.JsonFields.Fields.{fields_of, items_of, number_json, numbers_json}
use Rattle.report_text.proofs.JsonFieldLemmas.Fields.{AllPlain, length-fields_of, one_when, parts_len}
use Rattle.report_text.proofs.JsonFieldLemmas.Fields.{plain_always}
use Rattle.report_text.proofs.JsonFieldLemmas.Fields.{plain_number, plain_numbers, plain_parts, plain_shown}
use Rattle.report_text.proofs.JsonFieldLemmas.Fields.{shown_len}
use Rattle.std.proofs.lemmas.Bool.{or_from}
use Rattle.report_text.specs.Level.Causal.{causal_fault_json, causal_fault_parts, causal_parts, step_json}
use Rattle.report_text.specs.Level.Causal.{reason_word, step_parts, steps_json, verdict_word}
use Rattle.report_text.specs.declared.level.causal.CausalFaultLines.{CausalFaultLines}
use Rattle.report_text.specs.declared.level.causal.CausalFaultLines.TheVariants.{Unwritten, Cycle}
use Rattle.report_text.specs.declared.level.causal.CausalLines.{CausalLines}
use Rattle.report_text.specs.declared.level.causal.StepLines.{StepLines}

-- ---- counts

pub step_count : (s : StepLines) (a b : ℕ) → a ≡ one_when (is_some s.knew) → b ≡ one_when (is_some s.read)
    → 3 + a + b ≡ length (fields_of (step_parts s))
unfolding parts_len
step_count s a b ha hb =
    let whole = length-fields_of (step_parts s) in
    let sa =
    shown_len (codes "knew") (λ (numbers : Vec ℕ Global). numbers_json numbers.items) s.knew in
    let sb = shown_len (codes "read") number_json s.read in
    omega arith

pub causal_count : (c : CausalLines) (a b : ℕ) → a ≡ one_when (is_some c.fault)
    → b ≡ one_when (is_some c.order) → 1 + a + b ≡ length (fields_of (causal_parts c))
unfolding parts_len
causal_count c a b ha hb =
    let whole = length-fields_of (causal_parts c) in
    let sa = shown_len (codes "causal_fault") causal_fault_json c.fault in
    let sb =
    shown_len (codes "causal_order") (λ (numbers : Vec ℕ Global). numbers_json numbers.items) c.order in
    omega arith

pub items_len-steps : (steps : List StepLines) → items_len (items_of (map step_json steps)) ≡ length steps
items_len-steps [] = refl
items_len-steps (s ∷ steps) = let e = items_len-steps steps in grind arith

-- ---- no floats

plain_step : (s : StepLines) → has_float (step_json s) ≡ false
plain_step s = plain_parts (step_parts s) (
  plain_always (codes "from") (number_json s.from) refl,
  (
    plain_shown (codes "knew") (λ (numbers : Vec ℕ Global). numbers_json numbers.items) s.knew (λ numbers.
        plain_numbers numbers.items),
    (
      plain_shown (codes "read") number_json s.read plain_number,
      (
        plain_always (codes "to") (number_json s.to) refl,
        (plain_always (codes "why") (string (reason_word s.why)) refl, tt),
      ),
    ),
  ),
)

plain_steps : (steps : List StepLines) → has_float (steps_json steps) ≡ false
plain_steps [] = refl
plain_steps (s ∷ steps) = or_from (has_float (step_json s)) _ (plain_step s) (plain_steps steps)

plain_causal_fault : (fault : CausalFaultLines) → has_float (causal_fault_json fault) ≡ false
plain_causal_fault (Unwritten read) = refl
plain_causal_fault (Cycle steps) = plain_parts (causal_fault_parts (Cycle steps)) (
  plain_always (codes "kind") (string (codes "cycle")) refl,
  (plain_always (codes "steps") (steps_json steps.items) (plain_steps steps.items), tt),
)

pub plain_causal : (c : CausalLines) → AllPlain (causal_parts c)
plain_causal c = (
  plain_always (codes "causal") (string (verdict_word c.verdict)) refl,
  (
    plain_shown (codes "causal_fault") causal_fault_json c.fault plain_causal_fault,
    (
      plain_shown (codes "causal_order") (λ (numbers : Vec ℕ Global). numbers_json numbers.items) c.order (λ
          numbers. plain_numbers numbers.items),
      tt,
    ),
  ),
)
