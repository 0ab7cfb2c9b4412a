-- Causal: one order of all writes, in which each read gives the last one of its register that it knows of
-- (causal convergence: Bouajjani, Enea, Guerraoui and Hamza, On Verifying Causal Consistency, POPL 2017).
use Rattle.std.specs.Prelude.{◌≡◌, ◌<◌, ◌⊎◌, ℕ, List, [], ◌∷◌, Some, false}
use Rattle.history_model.specs.Legal.{IsBeforeInSession}
use Rattle.history_model.specs.Lists.{In, Before}
use Rattle.history_model.specs.Operations.{IsCompleted, IsCompletedRead, IsHistory, IsReadOf, IsWrite}
use Rattle.history_model.specs.Operations.{Precedes, of_register}
use Rattle.history_model.specs.declared.operation.Operation.{Operation}

-- what holds of all operations of an accepted history
pub record IsWhole (ops : List Operation) : Type 0 where
  pub each : (r : ℕ) → IsHistory (of_register r ops)
  -- the operations of one process come one after another, whatever their registers
  pub turns : (a b : Operation) (p : ℕ) → In a ops → In b ops → a.process ≡ Some p → b.process ≡ Some p
      → (a ≡ b) ⊎ (Precedes a b ⊎ Precedes b a)
  -- a missing reply comes after every call
  pub pending : (a b : Operation) → In a ops → In b ops → a.completed ≡ false → b.call < a.reply

-- r gives the value that w wrote to its register
pub record IsSource (w r : Operation) : Type 0 where
  pub write : IsWrite w
  pub register : w.register ≡ r.register
  pub read : IsReadOf w r

-- b learns of a at once: a comes first in its session, or b gives the value that a wrote
abbrev pub Learns : Operation → Operation → Type 0
Learns a b = IsBeforeInSession a b ⊎ IsSource a b

-- operations on the way from a to b, each of which learns of the one before it
abbrev pub IsWay : List Operation → Operation → List Operation → Operation → Type 0
IsWay ops a [] b = In a ops × In b ops × Learns a b
IsWay ops a (c ∷ way) b = In a ops × Learns a c × IsWay ops c way b

-- b knows of a
abbrev pub Knows : List Operation → Operation → Operation → Type 0
Knows ops a b = (way : List Operation) × IsWay ops a way b

-- a write that is initial or completed, or pending with a completed read of its value
pub record IsKeptWrite (ops : List Operation) (w : Operation) : Type 0 where
  pub within : In w ops
  pub write : IsWrite w
  pub kept : IsCompleted w ⊎ ((r : Operation) × In r ops × IsSource w r)

-- of the writes of r's register that r knows of, w stands last in the order, and r gives its value
pub record IsLastKnown (ops order : List Operation) (w r : Operation) : Type 0 where
  pub source : IsSource w r
  pub within : In w order
  pub last : (v : Operation) → IsWrite v → v.register ≡ r.register → Knows ops v r
      → (v ≡ w) ⊎ Before v w order

-- the kept writes, each once and behind those that it knows of, so that each completed read gives the last
-- one that it knows of
pub record IsCausalOrder (ops order : List Operation) : Type 0 where
  pub once : (v : Operation) → Before v v order → ⊥
  pub only : (v : Operation) → In v order → IsKeptWrite ops v
  pub all : (v : Operation) → IsKeptWrite ops v → In v order
  pub known : (v w : Operation) → In v order → In w order → Knows ops v w → Before v w order
  pub met : (r : Operation) → In r ops → IsCompletedRead r
      → (w : Operation) × IsLastKnown ops order w r

abbrev pub IsCausal : List Operation → Type 0
IsCausal ops = (order : List Operation) × IsCausalOrder ops order
