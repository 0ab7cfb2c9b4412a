use Rattle.std.proofs.Common.{refl, subst, sym, Some}
use Rattle.level_report.specs.Freshness.{AreStaleShown}
use Rattle.level_report.proofs.freshness.stale_if.Goals as goal

pub returns-in_ok-all_stale-in-true : goal.returns-in_ok-all_stale-in-true
returns-in_ok-all_stale-in-true c =
    subst (λ b. AreStaleShown c.args.ops.now b (Some c.in_ok-all_stale-in-true.field-0)) (sym c.in-true.is)
    (c.in_ok-all_stale-in-true.field-0, refl, c.in_ok-all_stale-in-true.ensures)
