use Rattle.std.proofs.Common.{◌∙◌, ap, map, subst}
use Rattle.reg_levels.specs.Decisions.{IsFaultOf}
use Rattle.reg_levels.specs.declared.decision.Step.{Step}
use Rattle.level_report.specs.Lines.{line_of, step_of}
use Rattle.level_report.proofs.Deciding.{cycle-shown}
use Rattle.level_report.proofs.guarantees.fault_lines.Goals as goal

pub returns-in_ok-write_lines-in-Cycle : goal.returns-in_ok-write_lines-in-Cycle
returns-in_ok-write_lines-in-Cycle c = λ e h.
    cycle-shown c.args.ops.now c.in-Cycle.steps c.in_ok-step_lines-in-Cycle.field-0
    c.in_ok-write_lines-in-Cycle.field-0
    (c.in_ok-step_lines-in-Cycle.ensures ∙ ap (map (step_of c.args.ops.now)) c.deref.ensures.value)
    (c.in_ok-write_lines-in-Cycle.ensures
    ∙ ap (map (λ (s : Step). line_of c.args.ops.now s.write)) c.deref-in-Cycle.ensures.value)
    e (subst (λ f. IsFaultOf c.args.ops.now f e) c.in-Cycle.is h)
