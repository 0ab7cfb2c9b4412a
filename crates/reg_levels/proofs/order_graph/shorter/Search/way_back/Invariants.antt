use Rattle.std.proofs.Common.{ℕ, ◌<◌, List, length}
use Rattle.reg_levels.specs.OrderGraph.Shorter.{AreMet}
use Rattle.reg_levels.specs.declared.order_graph.edge.Edge.{Edge}
use Rattle.reg_levels.proofs.OrderGraphLemmas.Trails.{IsTrail}
use Rattle.reg_levels.proofs.order_graph.shorter.Search.way_back.Given as goal

abbrev pub invariant-loop-place : goal.invariant-loop-place
invariant-loop-place l = record {
  within : l.place < length l.self.met.items;
  trail : (nodes : ℕ) (edges : List Edge) (start : ℕ) → AreMet nodes edges start l.self.met.items
      → IsTrail edges l.self.met.items l.from l.place l.cycle.items;
}

abbrev pub decreases-loop-place : goal.decreases-loop-place
decreases-loop-place l = l.place
