-- Edges of the graph, and the reasons behind them.
use Rattle.std.proofs.Common.{◌≡◌, ℕ, List, [], length, slice_get, Some, inl, inr, sym}
use Rattle.std.proofs.Common.{subst, ap, ◌∙◌, ◌+◌, Option, arith}
use Rattle.std.proofs.lemmas.Bool.{cases_order}
use Rattle.history_model.specs.declared.operation.Operation.{Operation}
use Rattle.reg_levels.specs.OrderGraph.Graph.{HasEdge}
use Rattle.reg_levels.specs.declared.order_graph.edge.Edge.{Edge}
use Rattle.causal_order.specs.SessionClocks.Clocks.{Asks}
use Rattle.causal_order.specs.declared.session_clocks.table.SessionTable.{SessionTable}
use Rattle.causal_order.specs.CausalGraph.{AreLearned, IsCausalGraph, Keeps}
use Rattle.causal_order.specs.declared.graph.CausalGraph.{CausalGraph}

pub graph-none : (ops : List Operation) (graph : CausalGraph) → graph.edges.items ≡ []
    → graph.reasons.items ≡ []
    → IsCausalGraph ops graph
graph-none ops graph e r = record {
  count = ap length r ∙ sym (ap length e);
  each = λ k edge reason at there. let none : slice_get {X = Edge} [] k ≡ Some edge = rw e at at in absurd
      (cc none);
}

-- what the operation at place n learns of is joined too
pub learned-more : (table : SessionTable) (n : ℕ) (old mid new : List Edge) (previous source : Option ℕ)
    → AreLearned table n old → Keeps old mid → Keeps mid new
    → slice_get table.previous.items n ≡ Some previous
    → slice_get table.sources.items n ≡ Some source → ((a : ℕ) → previous ≡ Some a → HasEdge mid a n)
    → ((a : ℕ) → source ≡ Some a → HasEdge new a n) → AreLearned table (n + 1) new
learned-more table n old mid new previous source h k m at there by_previous by_source p q l learns =
    elim (cases_order q n) [
      | inl e ↦ subst (HasEdge new p) (sym e) (go (subst (λ n. Asks table n p) e learns))
      | inr o ↦ elim o [
        | inl less ↦ m p q (k p q (h p q less learns))
        | inr more ↦ absurd (omega arith)
      ]
    ]
  where
    go : Asks table n p → HasEdge new p n
    go (inl e) = let s : Some previous ≡ Some (Some p) = sym at ∙ e in m p n (by_previous p (cc s))
    go (inr e) = let s : Some source ≡ Some (Some p) = sym there ∙ e in by_source p (cc s)
