use Rattle.std.proofs.Common.{subst}
use Rattle.reg_report.specs.Registers.{AreGatheredIfAtomic}
use Rattle.reg_report.proofs.history.merged_order.Goals as goal

pub merge_gathered-requires : goal.merge_gathered-requires
merge_gathered-requires c =
    subst (AreGatheredIfAtomic c.args.arena.now) c.in-Some.is c.in_ok-orders_of.ensures

pub returns-in-None : goal.returns-in-None
returns-in-None c = subst (AreGatheredIfAtomic c.args.arena.now) c.in-None.is c.in_ok-orders_of.ensures
