-- What is decided of a history's operations, `ops`, which the answer names by their places (this project's
-- own words).
use Rattle.std.specs.Prelude.{◌≡◌, ℕ, ◌+◌, ◌*◌, ◌^◌, ◌<◌, List, [], ◌∷◌, ◌++◌, length, Option, Some, None}
use Rattle.std.specs.Prelude.{Vec}
use Rattle.std.specs.Global.{Global}
use Rattle.history_model.specs.declared.operation.Operation.{Operation}
use Rattle.level_laws.specs.Causal.{IsCausalOrder, IsWay}
use Rattle.level_laws.specs.CausalFault.{IsCausalFault, Reason, Step, first_of}
use Rattle.level_laws.specs.CausalFault.{CausalFault as Evidence}
use Rattle.level_laws.specs.CausalFault.Reason.{process, read, initial, hidden}
use Rattle.level_laws.specs.CausalFault.CausalFault.{unwritten, cycle}
use Rattle.causal_order.specs.declared.decision.CausalFault.{CausalFault}
use Rattle.causal_order.specs.declared.decision.CausalFault.TheVariants.{Unwritten, Cycle}
use Rattle.causal_order.specs.declared.decision.CausalStep.{CausalStep}
use Rattle.causal_order.specs.declared.decision.Decision.{Decision}
use Rattle.causal_order.specs.declared.decision.Decision.TheVariants.{Causal, Broken, Unknown}
use Rattle.causal_order.specs.declared.decision.Why.{Why}
use Rattle.causal_order.specs.declared.decision.Why.TheVariants.{Process, Read, Initial, Hidden}
use Rattle.causal_order.specs.SessionClocks.Sessions.{IsAt, IsSessionTable}
use Rattle.causal_order.specs.declared.session_clocks.table.SessionTable.{SessionTable}

-- the operations at these places
abbrev pub AreAt : List Operation → List ℕ → List Operation → Type 0
AreAt ops [] [] = Unit {0}
AreAt ops [] (a ∷ rest) = ⊥
AreAt ops (p ∷ ps) [] = ⊥
AreAt ops (p ∷ ps) (a ∷ rest) = IsAt ops p a × AreAt ops ps rest

-- the places lead from the operation a at place p to the read r at place q, each to one that learns of it at
-- once
pub record IsKnewOf (ops : List Operation) (a : Operation) (p : ℕ) (r : Operation) (q : ℕ) (knew : List ℕ)
    : Type 0 where
  pub between : List ℕ
  pub places : knew ≡ p ∷ (between ++ q ∷ [])
  pub way : List Operation
  pub at_way : AreAt ops between way
  pub is_way : IsWay ops a way r

-- the places that are given are those of a way
abbrev pub IsKnew : List Operation → Operation → ℕ → Operation → ℕ → Option (Vec ℕ Global) → Type 0
IsKnew ops a p r q None = Unit {0}
IsKnew ops a p r q (Some knew) = IsKnewOf ops a p r q knew.items

-- the answer gives the reason why the operation a, at place p, comes before another
abbrev pub IsWhyOf : List Operation → Operation → ℕ → Why → Reason → Type 0
IsWhyOf ops a p Process process = Unit {0}
IsWhyOf ops a p Process read = ⊥
IsWhyOf ops a p Process initial = ⊥
IsWhyOf ops a p Process (hidden r) = ⊥
IsWhyOf ops a p Read process = ⊥
IsWhyOf ops a p Read read = Unit {0}
IsWhyOf ops a p Read initial = ⊥
IsWhyOf ops a p Read (hidden r) = ⊥
IsWhyOf ops a p Initial process = ⊥
IsWhyOf ops a p Initial read = ⊥
IsWhyOf ops a p Initial initial = Unit {0}
IsWhyOf ops a p Initial (hidden r) = ⊥
IsWhyOf ops a p (Hidden q knew) process = ⊥
IsWhyOf ops a p (Hidden q knew) read = ⊥
IsWhyOf ops a p (Hidden q knew) initial = ⊥
IsWhyOf ops a p (Hidden q knew) (hidden r) = IsAt ops q r × IsKnew ops a p r q knew

-- the step of the answer is that of the evidence, which leads to the operation b
pub record IsStepOf (ops : List Operation) (shown : CausalStep) (step : Step) (b : Operation) : Type 0 where
  pub at_from : IsAt ops shown.from step.from
  pub at_to : IsAt ops shown.to b
  pub reason : IsWhyOf ops step.from shown.from shown.why step.why

-- the steps of the answer are those of the evidence, the last of which leads to the operation b
abbrev pub AreStepsOf : List Operation → List CausalStep → List Step → Operation → Type 0
AreStepsOf ops [] [] b = Unit {0}
AreStepsOf ops [] (step ∷ steps) b = ⊥
AreStepsOf ops (shown ∷ rest) [] b = ⊥
AreStepsOf ops (shown ∷ rest) (step ∷ steps) b =
    IsStepOf ops shown step (first_of steps b) × AreStepsOf ops rest steps b

-- the steps of the answer are those of a cycle
abbrev pub IsCycleOf : List Operation → List CausalStep → List Step → Type 0
IsCycleOf ops shown [] = ⊥
IsCycleOf ops shown (step ∷ steps) = AreStepsOf ops shown (step ∷ steps) step.from

-- the fault names the operations of the evidence by their places, and shows ways by which reads know of
-- writes
abbrev pub IsShown : List Operation → CausalFault → Evidence → Type 0
IsShown ops (Unwritten p) (unwritten r) = IsAt ops p r
IsShown ops (Unwritten p) (cycle steps) = ⊥
IsShown ops (Cycle shown) (unwritten r) = ⊥
IsShown ops (Cycle shown) (cycle steps) = IsCycleOf ops shown.items steps

-- so many sessions and operations that the graph, the clocks or the work may pass their bounds
abbrev pub IsBeyond : List Operation → Type 0
IsBeyond ops = (table : SessionTable) × IsSessionTable ops table
    × (2 ^ 25 < (table.count + 2) * length ops)

-- The writes at these places stand in a causal order; or the fault is evidence that there is none; or there
-- are many operations.
abbrev pub IsDecision : List Operation → Decision → Type 0
IsDecision ops (Causal places) =
    (order : List Operation) × AreAt ops places.items order × IsCausalOrder ops order
IsDecision ops (Broken fault) = (evidence : Evidence) × IsShown ops fault evidence
    × IsCausalFault ops evidence
IsDecision ops Unknown = IsBeyond ops
