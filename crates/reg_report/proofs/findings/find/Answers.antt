use Rattle.std.proofs.Common.{rules, subst}
use Rattle.std.specs.Prelude.{MatchBool}
use Rattle.reg_report.specs.Pieces.Plan.{IsFirstPlan, IsPlan}
use Rattle.reg_report.proofs.findings.find.Goals as goal

pub both-counts-requires-after_bounds : goal.both-counts-requires-after_bounds
both-counts-requires-after_bounds g c κs within =
    let whole =
    subst (λ first.
    MatchBool first (IsFirstPlan c.args.arena.now c.in_ok-plan.plan)
    (IsPlan c.args.arena.now c.args.settings.cut c.in_ok-plan.plan)) c.requires
    c.in_ok-plan.ensures.by in
    (tt, ((search rules, whole), (search rules, search rules)))

pub findings-requires-clause-plan : goal.findings-requires-clause-plan
findings-requires-clause-plan g c =
    let whole =
    subst (λ first.
    MatchBool first (IsFirstPlan c.args.arena.now c.in_ok-plan.plan)
    (IsPlan c.args.arena.now c.args.settings.cut c.in_ok-plan.plan)) c.requires
    c.in_ok-plan.ensures.by in
    (c.args.settings.cut, whole)
