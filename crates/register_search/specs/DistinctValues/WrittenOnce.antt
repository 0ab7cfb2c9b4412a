-- Values that are written once, as zones want them (this project's profile).
use Rattle.std.specs.Prelude.{◌≡◌, ℤ, true, List}
use Rattle.history_text.specs.declared.event.Val.TheVariants.{Null, Int}
use Rattle.history_model.specs.Lists.{Before, In}
use Rattle.history_model.specs.declared.act.Act.TheVariants.{Write}
use Rattle.history_model.specs.declared.operation.Operation.{Operation}
use Rattle.register_search.specs.declared.value_numbers.ValueNumbers.{ValueNumbers}
use Rattle.register_search.specs.ValueNumbers.{has_number}

-- no value is written twice, nor null
pub record AreWrittenOnce (ops : List Operation) : Type 0 where
  pub null : (a : Operation) → In a ops → a.act ≡ Write Null → ⊥
  pub once : (a b : Operation) (n : ℤ) → Before a b ops → a.act ≡ Write (Int n) → b.act ≡ Write (Int n) → ⊥

-- the operations write their values once, and the set has these
pub record HasWritten (ops : List Operation) (s : ValueNumbers) : Type 0 where
  pub once : AreWrittenOnce ops
  pub has : (a : Operation) (n : ℤ) → In a ops → a.act ≡ Write (Int n) → has_number s n ≡ true
