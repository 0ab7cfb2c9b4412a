-- What shows that no order of the writes is causal (cycles as in Bouajjani, Enea, Guerraoui and Hamza, On
-- Verifying Causal Consistency, POPL 2017, section 5.3; the kinds are this project's profile).
use Rattle.std.specs.Prelude.{◌≡◌, ℕ, List, [], ◌∷◌, None, Some, ◌<◌}
use Rattle.history_model.specs.Lists.{In}
use Rattle.history_model.specs.Operations.{IsCompletedRead, IsWrite}
use Rattle.history_model.specs.declared.operation.Operation.{Operation}
use Rattle.level_laws.specs.Causal.{IsSource, Knows}

-- one process called both, a first
pub record IsEarlierCall (a b : Operation) : Type 0 where
  pub process : ℕ
  pub first : a.process ≡ Some process
  pub second : b.process ≡ Some process
  pub earlier : a.call < b.call

-- a is an initial write, and somebody called b
pub record IsInitialFor (a b : Operation) : Type 0 where
  pub process : ℕ
  pub first : a.process ≡ None
  pub second : b.process ≡ Some process

-- r gives the value of b although it knows of a, which wrote another to its register; so a comes before b
pub record IsHiddenBy (ops : List Operation) (a b r : Operation) : Type 0 where
  pub within : In r ops
  pub differ : a ≡ b → ⊥
  pub write : IsWrite a
  pub register : a.register ≡ r.register
  pub source : IsSource b r
  pub known : Knows ops a r

-- why an operation comes before another
pub data Reason : Type 0 where
  process : Reason
  read : Reason
  initial : Reason
  hidden : Operation → Reason

abbrev pub IsReason : List Operation → Operation → Operation → Reason → Type 0
IsReason ops a b process = IsEarlierCall a b
IsReason ops a b read = IsSource a b
IsReason ops a b initial = IsInitialFor a b
IsReason ops a b (hidden r) = IsHiddenBy ops a b r

-- a step of a cycle: from an operation to the next one, and why the one comes before the other
pub record Step : Type 0 where
  pub from : Operation
  pub why : Reason

-- the operation where the first step begins, or b if there is none
abbrev pub first_of : List Step → Operation → Operation
first_of [] b = b
first_of (step ∷ steps) b = step.from

-- each step leads to the operation where the next one begins, the last one to b
abbrev pub AreSteps : List Operation → List Step → Operation → Type 0
AreSteps ops [] b = Unit {0}
AreSteps ops (step ∷ steps) b =
    In step.from ops × IsReason ops step.from (first_of steps b) step.why × AreSteps ops steps b

-- steps from an operation back to itself
abbrev pub IsCausalCycle : List Operation → List Step → Type 0
IsCausalCycle ops [] = ⊥
IsCausalCycle ops (step ∷ steps) = AreSteps ops (step ∷ steps) step.from

-- a completed read whose value nobody wrote to its register
pub record IsUnwrittenRead (ops : List Operation) (r : Operation) : Type 0 where
  pub within : In r ops
  pub read : IsCompletedRead r
  pub unwritten : (w : Operation) → In w ops → IsSource w r → ⊥

pub data CausalFault : Type 0 where
  unwritten : Operation → CausalFault
  cycle : List Step → CausalFault

-- what rules out every causal order
abbrev pub IsCausalFault : List Operation → CausalFault → Type 0
IsCausalFault ops (unwritten r) = IsUnwrittenRead ops r
IsCausalFault ops (cycle steps) = IsCausalCycle ops steps
