use Rattle.level_report.specs.Steps.{AreFirstStepLines}
use Rattle.level_report.proofs.causal.steps_lines.Given as goal

abbrev pub invariant-loop-step : goal.invariant-loop-step
invariant-loop-step l = AreFirstStepLines l.ops l.steps l.step-index l.lines.items
