use Rattle.configurations.specs.Configs.{AreApart}
use Rattle.configurations.proofs.guided.put_down_best.Given as goal

abbrev pub invariant-loop-i : goal.invariant-loop-i
invariant-loop-i g l = AreApart l.table l.reply l.lists.work l.lists.next

abbrev pub invariant-loop-at : goal.invariant-loop-at
invariant-loop-at g l = AreApart l.table l.reply l.lists.work l.lists.next
