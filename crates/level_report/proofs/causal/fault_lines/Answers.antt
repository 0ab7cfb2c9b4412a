use Rattle.std.proofs.Common.{subst}
use Rattle.causal_order.specs.Decisions.{IsShown}
use Rattle.level_report.specs.Steps.{AreStepLines}
use Rattle.level_report.proofs.CausalShown.{cycle-shown}
use Rattle.level_report.proofs.causal.fault_lines.Goals as goal

pub returns-in_ok-steps_lines-in-Cycle : goal.returns-in_ok-steps_lines-in-Cycle
returns-in_ok-steps_lines-in-Cycle c = λ evidence is.
    cycle-shown c.args.ops.now c.in-Cycle.steps c.in_ok-steps_lines-in-Cycle.field-0
    (subst (λ steps. AreStepLines c.args.ops.now steps c.in_ok-steps_lines-in-Cycle.field-0.items)
    c.deref.ensures.value c.in_ok-steps_lines-in-Cycle.ensures) evidence
    (subst (λ f. IsShown c.args.ops.now f evidence) c.in-Cycle.is is)
