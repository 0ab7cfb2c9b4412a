use Rattle.std.proofs.Common.{◌≡◌, slice_get, Some}
use Rattle.reg_levels.specs.OrderGraph.GraphWalk.{IsGraphWalk, KeepsMet, work_left}
use Rattle.reg_levels.specs.declared.order_graph.walk.NodeMark.TheVariants.{New}
use Rattle.reg_levels.proofs.order_graph.walk.GraphWalk.visit.Given as goal

abbrev pub invariant-loop-self : goal.invariant-loop-self
invariant-loop-self l = record {
  walk : IsGraphWalk l.edges l.self;
  goes : KeepsMet l.fn.self l.self;
  met : slice_get l.self.marks.items l.node ≡ Some New → ⊥;
}

abbrev pub decreases-loop-self : goal.decreases-loop-self
decreases-loop-self l = work_left l.self
