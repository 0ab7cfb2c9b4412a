use Rattle.std.proofs.Common.{◌*◌, ◌-◌}
use Rattle.configurations.specs.Configs.{AreApart}
use Rattle.configurations.proofs.guided.try_each.Given as goal

abbrev pub invariant-loop-slot : goal.invariant-loop-slot
invariant-loop-slot g l = AreApart l.table l.reply l.lists.work l.lists.next

abbrev pub decreases-loop-slot : goal.decreases-loop-slot
decreases-loop-slot g l = 64 * g.row.W - l.at
