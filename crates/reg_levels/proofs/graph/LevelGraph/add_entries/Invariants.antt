use Rattle.reg_levels.proofs.Chaining.{AreEntriesBelow}
use Rattle.reg_levels.proofs.graph.LevelGraph.add_entries.Given as goal

abbrev pub invariant-loop-number : goal.invariant-loop-number
invariant-loop-number l = AreEntriesBelow l.clusters l.calls l.number l.fn.self l.self
