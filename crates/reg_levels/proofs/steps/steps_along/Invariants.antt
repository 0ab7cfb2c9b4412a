use Rattle.std.proofs.Common.{◌≡◌, ◌<◌, ℕ, List, Option, Some, length, slice_get}
use Rattle.history_model.specs.declared.guarantee.Guarantee.{Guarantee}
use Rattle.history_model.specs.declared.operation.Operation.{Operation}
use Rattle.reg_levels.specs.OrderGraph.Graph.{IsPath}
use Rattle.reg_levels.specs.Clusters.Table.{IsEnds}
use Rattle.reg_levels.specs.declared.clusters.table.ClusterEnds.{ClusterEnds}
use Rattle.reg_levels.proofs.Tracing.{IsTrace, IsTraced}
use Rattle.reg_levels.proofs.steps.steps_along.Given as goal

abbrev pub invariant-loop-number : goal.invariant-loop-number
invariant-loop-number l = record {
  within : l.at < length l.clusters;
  trace : (g : Guarantee) (ops : List Operation) (numbers : List (Option ℕ)) (calls : List ℕ) (a : ℕ)
      (c : ClusterEnds) (w : Operation) → IsTraced g ops l.clusters numbers calls l.graph
      → IsPath l.graph.edges.items a l.turned a → slice_get l.clusters a ≡ Some c → IsEnds ops w c
      → IsTrace g ops l.clusters calls l.graph.edges.items l.turned a w l.number-index l.steps.items l.at;
}
