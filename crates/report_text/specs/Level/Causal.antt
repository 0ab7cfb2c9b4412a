-- What the summary of a report says of the whole history, as JSON: keys in byte order.
use Rattle.std.specs.Global.{Global}
use Rattle.std.specs.Prelude.{ℕ, codes, List, [], ◌∷◌, map, Vec}
use Rattle.serde_json.specs.Data.{Data, string, array}
use Rattle.report_text.specs.JsonFields.Fields.{Field, always, shown, items_of, number_json, numbers_json}
use Rattle.report_text.specs.JsonFields.Fields.{object_json}
use Rattle.report_text.specs.declared.level.causal.CausalFaultLines.{CausalFaultLines}
use Rattle.report_text.specs.declared.level.causal.CausalFaultLines.TheVariants.{Unwritten, Cycle}
use Rattle.report_text.specs.declared.level.causal.CausalLines.{CausalLines}
use Rattle.report_text.specs.declared.level.causal.CausalVerdict.{CausalVerdict}
use Rattle.report_text.specs.declared.level.causal.CausalVerdict.TheVariants.{Yes, No, Unknown}
use Rattle.report_text.specs.declared.level.causal.StepLines.{StepLines}
use Rattle.report_text.specs.declared.level.causal.StepReason.{StepReason}
use Rattle.report_text.specs.declared.level.causal.StepReason.TheVariants.{Process, Read, Initial, Hidden}

abbrev pub verdict_word : CausalVerdict → List ℕ
verdict_word Yes = codes "yes"
verdict_word No = codes "no"
verdict_word Unknown = codes "unknown"

abbrev pub reason_word : StepReason → List ℕ
reason_word Process = codes "process"
reason_word Read = codes "read"
reason_word Initial = codes "initial"
reason_word Hidden = codes "hidden"

abbrev pub step_parts : StepLines → List (List Field)
step_parts s =
    always (codes "from") (number_json s.from)
    ∷ shown (codes "knew") (λ (numbers : Vec ℕ Global). numbers_json numbers.items) s.knew
    ∷ shown (codes "read") number_json s.read
    ∷ always (codes "to") (number_json s.to)
    ∷ always (codes "why") (string (reason_word s.why))
    ∷ []

abbrev pub step_json : StepLines → Data
step_json s = object_json (step_parts s)

abbrev pub steps_json : List StepLines → Data
steps_json steps = array (items_of (map step_json steps))

abbrev pub causal_fault_parts : CausalFaultLines → List (List Field)
causal_fault_parts (Unwritten read) =
    always (codes "kind") (string (codes "unwritten")) ∷ always (codes "read") (number_json read) ∷ []
causal_fault_parts (Cycle steps) =
    always (codes "kind") (string (codes "cycle")) ∷ always (codes "steps") (steps_json steps.items) ∷ []

abbrev pub causal_fault_json : CausalFaultLines → Data
causal_fault_json fault = object_json (causal_fault_parts fault)

-- the fields of the summary
abbrev pub causal_parts : CausalLines → List (List Field)
causal_parts c =
    always (codes "causal") (string (verdict_word c.verdict))
    ∷ shown (codes "causal_fault") causal_fault_json c.fault
    ∷ shown (codes "causal_order") (λ (numbers : Vec ℕ Global). numbers_json numbers.items) c.order
    ∷ []
