-- Ways from a write to a read that knows of it, by places, the search for them back from the read, and
-- what the steps of an answer say of the edges of a cycle (this project's own words).
use Rattle.std.specs.Prelude.{◌≡◌, ℕ, suc, ◌<◌, List, [], ◌∷◌, ◌++◌, length, slice_get, Option, Some, None}
use Rattle.std.specs.Prelude.{Vec}
use Rattle.std.specs.Global.{Global}
use Rattle.reg_levels.specs.declared.order_graph.edge.Edge.{Edge}
use Rattle.causal_order.specs.declared.decision.CausalStep.{CausalStep}
use Rattle.causal_order.specs.declared.decision.Why.{Why}
use Rattle.causal_order.specs.declared.decision.Why.TheVariants.{Process, Read, Initial, Hidden}
use Rattle.causal_order.specs.declared.graph.CausalGraph.{CausalGraph}
use Rattle.causal_order.specs.declared.graph.EdgeReason.{EdgeReason}
use Rattle.causal_order.specs.declared.graph.EdgeReason.TheVariants.{Session, Source, Known}
use Rattle.causal_order.specs.declared.knew.MetPlace.{MetPlace}
use Rattle.causal_order.specs.SessionClocks.Clocks.{Asks}
use Rattle.causal_order.specs.declared.session_clocks.table.SessionTable.{SessionTable}

-- the places between p and q, each of an operation that learns at once of that at the place before it
abbrev pub LeadTo : SessionTable → ℕ → List ℕ → ℕ → Type 0
LeadTo table p [] q = Asks table q p
LeadTo table p (d ∷ between) q = Asks table d p × LeadTo table d between q

-- the places of such a way, both ends included
pub record IsFound (table : SessionTable) (p q : ℕ) (knew : List ℕ) : Type 0 where
  pub between : List ℕ
  pub places : knew ≡ p ∷ (between ++ q ∷ [])
  pub leads : LeadTo table p between q

-- The search began with the read; of each other operation that was met, one that was met before it learns at
-- once.
pub record AreMet (table : SessionTable) (start : ℕ) (met : List MetPlace) : Type 0 where
  pub first : (m : MetPlace) → slice_get met 0 ≡ Some m → m.place ≡ start
  pub some : 0 < length met
  pub among : (i : ℕ) (m : MetPlace) → slice_get met i ≡ Some m → m.place < length table.previous.items
  pub before : (i : ℕ) (m : MetPlace) → slice_get met (suc i) ≡ Some m → m.by < suc i
  pub leads : (i : ℕ) (m n : MetPlace) → slice_get met (suc i) ≡ Some m → slice_get met m.by ≡ Some n
      → Asks table n.place m.place

-- the places of a way from p to q, if they are given
abbrev pub IsFoundIf : SessionTable → ℕ → ℕ → Option (Vec ℕ Global) → Type 0
IsFoundIf table p q None = Unit {0}
IsFoundIf table p q (Some knew) = IsFound table p q knew.items

-- the read of an edge, if it has one, stands below place n
abbrev pub IsReadWithin : ℕ → EdgeReason → Type 0
IsReadWithin n Session = Unit {0}
IsReadWithin n Source = Unit {0}
IsReadWithin n (Known q) = q < n

-- what an answer says of an edge from p that is there for a reason
abbrev pub IsShownWhy : SessionTable → ℕ → EdgeReason → Why → Type 0
IsShownWhy table p Session Process = Unit {0}
IsShownWhy table p Session Read = ⊥
IsShownWhy table p Session Initial = ⊥
IsShownWhy table p Session (Hidden q knew) = ⊥
IsShownWhy table p Source Process = ⊥
IsShownWhy table p Source Read = Unit {0}
IsShownWhy table p Source Initial = ⊥
IsShownWhy table p Source (Hidden q knew) = ⊥
IsShownWhy table p (Known r) Process = ⊥
IsShownWhy table p (Known r) Read = ⊥
IsShownWhy table p (Known r) Initial = ⊥
IsShownWhy table p (Known r) (Hidden q knew) = (q ≡ r) × IsFoundIf table p q knew

-- the step is that of the edge
pub record IsEdgeStep (table : SessionTable) (edge : Edge) (reason : EdgeReason)
    (step : CausalStep) : Type 0 where
  pub from : step.from ≡ edge.from
  pub to : step.to ≡ edge.to
  pub why : IsShownWhy table edge.from reason step.why

-- the steps are those of the edges of these numbers
abbrev pub AreEdgeSteps : SessionTable → CausalGraph → List ℕ → List CausalStep → Type 0
AreEdgeSteps table graph [] [] = Unit {0}
AreEdgeSteps table graph [] (step ∷ steps) = ⊥
AreEdgeSteps table graph (k ∷ cycle) [] = ⊥
AreEdgeSteps table graph (k ∷ cycle) (step ∷ steps) =
    (edge : Edge) × (reason : EdgeReason) × (slice_get graph.edges.items k ≡ Some edge)
    × (slice_get graph.reasons.items k ≡ Some reason) × IsEdgeStep table edge reason step
    × AreEdgeSteps table graph cycle steps
