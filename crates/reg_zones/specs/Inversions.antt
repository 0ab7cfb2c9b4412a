-- New-old inversions of a register's operations, `ops`: a read gives a new value, and a later read an old one
-- (Lamport, On Interprocess Communication, Part II, 1986, section 2).
use Rattle.std.specs.Prelude.{List, Option, Some, None}
use Rattle.history_model.specs.declared.ids.Oper.{Oper}
use Rattle.history_model.specs.Lamport.{KeepsRegular}
use Rattle.history_model.specs.Lists.{In}
use Rattle.history_model.specs.Operations.{IsCompletedRead, IsReadOf, IsWrite, Precedes}
use Rattle.history_model.specs.declared.operation.Operation.{Operation}
use Rattle.reg_zones.specs.declared.fault.Fault.{Fault}
use Rattle.reg_zones.specs.declared.fault.Fault.TheVariants.{Unwritten, Early, Zones}

-- each completed read keeps what a regular register owes it
abbrev pub IsRegular : List Operation → Type 0
IsRegular ops = (r : Operation) → In r ops → IsCompletedRead r → KeepsRegular ops r

-- v is a write, and r a completed read of its value
pub record IsReadWrite (ops : List Operation) (v r : Operation) : Type 0 where
  pub write_within : In v ops
  pub write : IsWrite v
  pub within : In r ops
  pub read : IsReadOf v r

-- r precedes s, and the write of s's value precedes the write of r's
pub record IsInversion (ops : List Operation) (r s : Operation) : Type 0 where
  pub order : Precedes r s
  pub newer : Operation
  pub older : Operation
  pub gives_newer : IsReadWrite ops newer r
  pub gives_older : IsReadWrite ops older s
  pub turned : Precedes older newer

abbrev pub HasInversion : List Operation → Type 0
HasInversion ops = (r : Operation) × (s : Operation) × IsInversion ops r s

-- the pair of a conflict that may be an inversion: an operation of the second write's
-- cluster, which precedes one of the first's
abbrev pub inversion_named : Fault → Option (Oper × Oper)
inversion_named (Unwritten read) = None
inversion_named (Early read write) = None
inversion_named (Zones writes first second) = Some second
