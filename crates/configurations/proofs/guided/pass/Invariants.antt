use Rattle.configurations.specs.Configs.{AreApart}
use Rattle.configurations.proofs.guided.pass.Given as goal

abbrev pub invariant-loop-at : goal.invariant-loop-at
invariant-loop-at g l = AreApart l.table l.reply l.lists.work l.lists.next
