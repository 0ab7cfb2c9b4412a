-- Clean registers: each read can be explained by some order of the register's operations, `ops`, in which
-- reads may be as old as they like (this project's own word).
use Rattle.std.specs.Prelude.{List}
use Rattle.history_model.specs.declared.operation.Operation.{Operation}
use Rattle.reg_zones.specs.Faults.{IsUnwritten, IsEarly}

-- each completed read has the write of its value, and none precedes it
pub record IsClean (ops : List Operation) : Type 0 where
  pub written : (r : Operation) → IsUnwritten ops r → ⊥
  pub in_time : (r w : Operation) → IsEarly ops r w → ⊥
