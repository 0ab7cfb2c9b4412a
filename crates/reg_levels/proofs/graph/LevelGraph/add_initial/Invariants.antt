use Rattle.reg_levels.proofs.Beginning.{IsBegunBelow}
use Rattle.reg_levels.proofs.graph.LevelGraph.add_initial.Given as goal

abbrev pub invariant-loop-other : goal.invariant-loop-other
invariant-loop-other l =
    IsBegunBelow l.ops l.table.clusters.items l.table.numbers.items l.number l.other l.fn.self l.self
