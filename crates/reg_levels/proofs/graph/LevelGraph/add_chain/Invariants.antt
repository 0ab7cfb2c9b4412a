use Rattle.reg_levels.proofs.Chaining.{IsChainBelow}
use Rattle.reg_levels.proofs.graph.LevelGraph.add_chain.Given as goal

abbrev pub invariant-loop-place : goal.invariant-loop-place
invariant-loop-place l = IsChainBelow l.count l.place l.fn.self l.self
