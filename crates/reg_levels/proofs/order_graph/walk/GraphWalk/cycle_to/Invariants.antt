use Rattle.reg_levels.proofs.OrderGraphLemmas.Rounds.{IsTurned}
use Rattle.reg_levels.proofs.order_graph.walk.GraphWalk.cycle_to.Given as goal

abbrev pub invariant-loop-place : goal.invariant-loop-place
invariant-loop-place l = IsTurned l.self.path.items l.cycle.items l.place l.node
