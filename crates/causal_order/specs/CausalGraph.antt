-- The graph of what comes before what among a history's operations, `ops`, by their places (its edges are
-- those of Bouajjani, Enea, Guerraoui and Hamza, On Verifying Causal Consistency, POPL 2017, section 5.3,
-- thinned out by sessions).
use Rattle.std.specs.Prelude.{◌≡◌, ℕ, ◌<◌, ◌^◌, List, [], ◌∷◌, ◌++◌, length, slice_get, Some}
use Rattle.history_model.specs.declared.operation.Operation.{Operation}
use Rattle.level_laws.specs.Causal.{IsSource, IsWhole}
use Rattle.level_laws.specs.CausalFault.{IsEarlierCall, IsHiddenBy}
use Rattle.reg_levels.specs.OrderGraph.Graph.{HasEdge}
use Rattle.reg_levels.specs.declared.order_graph.edge.Edge.{Edge}
use Rattle.causal_order.specs.declared.graph.CausalGraph.{CausalGraph}
use Rattle.causal_order.specs.declared.graph.EdgeReason.{EdgeReason}
use Rattle.causal_order.specs.declared.graph.EdgeReason.TheVariants.{Session, Source, Known}
use Rattle.causal_order.specs.SessionClocks.Clocks.{Asks}
use Rattle.causal_order.specs.SessionClocks.Sessions.{IsAt, IsCalledInOrder, IsSessionTable}
use Rattle.causal_order.specs.declared.session_clocks.table.SessionTable.{SessionTable}

-- why the operation a comes before b
abbrev pub IsFor : List Operation → Operation → Operation → EdgeReason → Type 0
IsFor ops a b Session = IsEarlierCall a b
IsFor ops a b Source = IsSource a b
IsFor ops a b (Known p) = (r : Operation) × IsAt ops p r × IsHiddenBy ops a b r

-- the operation at place p comes before that at q for this reason
pub record IsBehind (ops : List Operation) (p q : ℕ) (reason : EdgeReason) : Type 0 where
  pub earlier : Operation
  pub later : Operation
  pub at_earlier : IsAt ops p earlier
  pub at_later : IsAt ops q later
  pub holds : IsFor ops earlier later reason

-- each edge is there for its reason
pub record IsCausalGraph (ops : List Operation) (graph : CausalGraph) : Type 0 where
  pub count : length graph.reasons.items ≡ length graph.edges.items
  pub each : (k : ℕ) (e : Edge) (reason : EdgeReason) → slice_get graph.edges.items k ≡ Some e
      → slice_get graph.reasons.items k ≡ Some reason → IsBehind ops e.from e.to reason

-- the table of a whole history's operations
pub record IsTableOf (ops : List Operation) (table : SessionTable) : Type 0 where
  pub whole : IsWhole ops
  pub called : IsCalledInOrder ops
  pub few : length ops < 2 ^ 22
  pub is_table : IsSessionTable ops table

-- the edge stands behind those of the old graph, with its reason
pub record Joins (edge : Edge) (reason : EdgeReason) (old new : CausalGraph) : Type 0 where
  pub edges : new.edges.items ≡ old.edges.items ++ edge ∷ []
  pub reasons : new.reasons.items ≡ old.reasons.items ++ reason ∷ []

-- what the old edges join the new ones join too
abbrev pub Keeps : List Edge → List Edge → Type 0
Keeps old new = (a b : ℕ) → HasEdge old a b → HasEdge new a b

-- an edge leads to each operation below place n from those of which it learns at once
abbrev pub AreLearned : SessionTable → ℕ → List Edge → Type 0
AreLearned table n edges = (p q : ℕ) → q < n → Asks table q p → HasEdge edges p q
