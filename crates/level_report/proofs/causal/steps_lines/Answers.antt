use Rattle.std.proofs.Common.{◌≡◌, arith, length, refl, subst}
use Rattle.std.proofs.lemmas.Option.{slice_get_read}
use Rattle.level_report.specs.Steps.{AreFirstStepLines}
use Rattle.level_report.proofs.CausalShown.{one-step-more}
use Rattle.level_report.proofs.causal.steps_lines.Goals as goal

pub loop-step-preserved : goal.loop-step-preserved
loop-step-preserved c =
    let steps = c.args.steps.now in
    let at =
    slice_get_read steps (length steps) c.loop-step.step-index c.step-item.result refl
    c.loop-step-test.true c.step-item.is in
    one-step-more c.args.ops.now steps c.loop-step.step-index c.loop-step.lines.items
    c.push.new.self.items c.step-item.result c.in_ok-step_lines.field-0 c.loop-step.invariant
    at c.in_ok-step_lines.ensures c.in_ok-push.ensures.items

pub returns : goal.returns
returns c =
    let all : c.loop-step.step-index ≡ length c.args.steps.now = omega (
      arith,
      c.loop-step-test.false,
      c.loop-step.auto.step-index-end,
    ) in
    subst (λ n. AreFirstStepLines c.args.ops.now c.args.steps.now n c.loop-step.lines.items) all
    c.loop-step.invariant
