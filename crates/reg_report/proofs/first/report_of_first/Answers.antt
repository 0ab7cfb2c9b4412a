use Rattle.std.proofs.Common.{subst}
use Rattle.std.specs.Prelude.{MatchBool}
use Rattle.reg_report.specs.Pieces.Plan.{IsFirstPlan, IsPlan}
use Rattle.reg_report.proofs.first.report_of_first.Goals as goal

pub first_faulty-requires-after_bounds : goal.first_faulty-requires-after_bounds
first_faulty-requires-after_bounds g c κs within =
    subst (λ first.
    MatchBool first (IsFirstPlan c.args.arena.now c.in_ok-plan.plan)
    (IsPlan c.args.arena.now c.args.settings.cut c.in_ok-plan.plan)) c.requires c.in_ok-plan.ensures.by
