use Rattle.std.proofs.Common.{sym}
use Rattle.reg_levels.proofs.GapLemmas.Showing.{last-latest}
use Rattle.reg_levels.proofs.gap.answer.last_call.Goals as goal

pub returns-in-Some : goal.returns-in-Some
returns-in-Some c = last-latest c.args.ops.now c.requires c.in-Some.op.now (sym c.in-Some.ensures.value)
