use Rattle.std.proofs.Common.{refl, arith}
use Rattle.reg_report.proofs.PieceLemmas.Fewness.{plan-few}
use Rattle.reg_report.proofs.pieces.planning.whole_plan.Goals as goal

pub returns : goal.returns
returns c =
    let few =
    plan-few c.args.arena.now c.args.cut c.in_ok-counts.counts c.in_ok-tasks.tasks.items c.requires
    c.in_ok-counts.ensures c.in_ok-tasks.ensures in
    record {
      counts = c.in_ok-counts.ensures;
      numbered = c.in_ok-tasks.ensures;
      few = omega (arith, few, c.few_events.ensures.events, c.few_events.ensures.registers);
      whole = refl;
    }
