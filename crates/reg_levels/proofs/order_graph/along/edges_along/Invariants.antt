use Rattle.std.proofs.Common.{◌≡◌, ◌-◌, ℕ, slice_get, Some}
use Rattle.reg_levels.specs.OrderGraph.Graph.{IsPath}
use Rattle.reg_levels.proofs.order_graph.along.edges_along.Given as goal

abbrev pub invariant-loop-place : goal.invariant-loop-place
invariant-loop-place l = (a b : ℕ) → slice_get l.cycle 0 ≡ Some a → slice_get l.cycle (l.place - 1) ≡ Some b
    → IsPath l.edges a l.numbers.items b
