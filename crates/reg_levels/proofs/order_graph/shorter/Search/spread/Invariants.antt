use Rattle.std.proofs.Common.{◌≡◌, ◌≤◌, length, slice_get, Some}
use Rattle.reg_levels.specs.OrderGraph.GraphWalk.{EndsAt}
use Rattle.reg_levels.specs.OrderGraph.Shorter.{AreMet}
use Rattle.reg_levels.specs.declared.order_graph.shorter.MetNode.{MetNode}
use Rattle.reg_levels.proofs.order_graph.shorter.Search.spread.Given as goal

abbrev pub invariant-loop-number : goal.invariant-loop-number
invariant-loop-number l = record {
  size : length l.self.seen.items ≡ length l.fn.self.seen.items;
  met : AreMet (length l.fn.self.seen.items) l.edges l.start l.self.met.items;
  longer : length l.fn.self.met.items ≤ length l.self.met.items;
  there : (m : MetNode) → slice_get l.self.met.items l.place ≡ Some m → m.node ≡ l.node;
  ends : EndsAt l.edges l.node l.number;
}

abbrev pub decreases-loop-number : goal.decreases-loop-number
decreases-loop-number l = l.number
