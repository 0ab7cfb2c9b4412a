-- Orders of the kept writes of one register's operations, `ops`, and the orders of operations that they
-- expand to (cluster by cluster, as in Gibbons and Korach, Testing Shared Memories, 1997, section 3).
use Rattle.std.specs.Prelude.{◌≡◌, ◌<◌, ◌⊎◌, ◌&&◌, Bool, false, List, [], ◌∷◌, ◌++◌}
use Rattle.std.specs.List.{filter}
use Rattle.history_text.specs.Values.{same_value}
use Rattle.history_model.specs.Lamport.{is_completed_read}
use Rattle.history_model.specs.Lists.{In, Before}
use Rattle.history_model.specs.Operations.{IsWrite, is_write, value_of}
use Rattle.history_model.specs.declared.guarantee.Guarantee.{Guarantee}
use Rattle.history_model.specs.declared.operation.Operation.{Operation}
use Rattle.reg_zones.specs.Clusters.{IsKept}
use Rattle.reg_zones.specs.Order.{IsListed}
use Rattle.level_laws.specs.Leads.{LeadsTo}

-- all kept writes, each once, and each before those that it leads to
pub record IsWriteOrder (guarantee : Guarantee) (ops writes : List Operation) : Type 0 where
  pub once : (v : Operation) → Before v v writes → ⊥
  pub only : (v : Operation) → In v writes → IsKept ops v
  pub all : (v : Operation) → IsKept ops v → In v writes
  pub forward : (v w : Operation) → LeadsTo guarantee ops v w → Before v w writes

-- whether r is a completed read of w's value
abbrev pub is_read_of : Operation → Operation → Bool
is_read_of w r = is_completed_read r && same_value (value_of r) (value_of w)

-- each write, followed by the completed reads of its value as they stand in ops
abbrev pub expanded : List Operation → List Operation → List Operation
expanded ops [] = []
expanded ops (w ∷ writes) = (w ∷ filter (is_read_of w) ops) ++ expanded ops writes

-- a comes sooner than b: by the places of the writes of their values, then the write first, then by call
abbrev pub ComesSooner : List Operation → Operation → Operation → Type 0
ComesSooner writes a b = ((v : Operation) × (w : Operation) × Before v w writes
    × (value_of v ≡ value_of a) × (value_of w ≡ value_of b))
    ⊎ ((value_of a ≡ value_of b)
    × ((IsWrite a × (is_write b ≡ false)) ⊎ ((is_write a ≡ is_write b) × (a.call < b.call))))

-- the kept writes and the completed reads, the sooner before the later
pub record IsExpansion (ops writes order : List Operation) : Type 0 where
  pub listed : (a : Operation) → In a order → IsListed ops a
  pub all : (a : Operation) → IsListed ops a → In a order
  pub ascending : (a b : Operation) → Before a b order → ComesSooner writes a b
