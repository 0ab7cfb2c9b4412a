-- Steps of a cycle by lines, from those by places in a history's operations, `ops` (this project's own).
use Rattle.std.specs.Global.{Global}
use Rattle.std.specs.Prelude.{◌≡◌, ℕ, List, map, length, slice_get, Option, None, Some, Vec}
use Rattle.history_model.specs.declared.operation.Operation.{Operation}
use Rattle.causal_order.specs.declared.decision.CausalStep.{CausalStep}
use Rattle.causal_order.specs.declared.decision.Why.{Why}
use Rattle.causal_order.specs.declared.decision.Why.TheVariants.{Process, Read, Initial, Hidden}
use Rattle.report_text.specs.declared.level.causal.StepLines.{StepLines}
use Rattle.report_text.specs.declared.level.causal.StepReason.TheVariants as shown
use Rattle.level_report.specs.Lines.{line_of}

abbrev pub lines_at : List Operation → List ℕ → List ℕ
lines_at ops places = map (line_of ops) places

-- the lines of places, if there are any
abbrev pub AreLinesIf : List Operation → Option (Vec ℕ Global) → Option (Vec ℕ Global) → Type 0
AreLinesIf ops None lines = lines ≡ None
AreLinesIf ops (Some places) lines =
    (found : Vec ℕ Global) × (lines ≡ Some found) × (found.items ≡ lines_at ops places.items)

abbrev pub IsReasonLines : List Operation → Why → StepLines → Type 0
IsReasonLines ops Process lines = (lines.why ≡ shown.Process) × (lines.read ≡ None) × (lines.knew ≡ None)
IsReasonLines ops Read lines = (lines.why ≡ shown.Read) × (lines.read ≡ None) × (lines.knew ≡ None)
IsReasonLines ops Initial lines = (lines.why ≡ shown.Initial) × (lines.read ≡ None) × (lines.knew ≡ None)
IsReasonLines ops (Hidden r knew) lines =
    (lines.why ≡ shown.Hidden) × (lines.read ≡ Some (line_of ops r)) × AreLinesIf ops knew lines.knew

pub record IsStepLines (ops : List Operation) (step : CausalStep) (lines : StepLines) : Type 0 where
  pub from : lines.from ≡ line_of ops step.from
  pub to : lines.to ≡ line_of ops step.to
  pub why : IsReasonLines ops step.why lines

-- the lines of the first steps
pub record AreFirstStepLines (ops : List Operation) (steps : List CausalStep) (n : ℕ)
    (lines : List StepLines) : Type 0 where
  pub count : length lines ≡ n
  pub each : (i : ℕ) (step : CausalStep) (found : StepLines) → slice_get steps i ≡ Some step
      → slice_get lines i ≡ Some found → IsStepLines ops step found

abbrev pub AreStepLines : List Operation → List CausalStep → List StepLines → Type 0
AreStepLines ops steps lines = AreFirstStepLines ops steps (length steps) lines
