-- The members of a register and value: the write of the value and the completed reads of it.
use Rattle.std.specs.Prelude.{◌≡◌, ℕ, ◌≤◌, ◌⊎◌, Option, Some, None}
use Rattle.history_text.specs.declared.event.Val.{Val}
use Rattle.history_model.specs.Lists.{In}
use Rattle.history_model.specs.History.{History}
use Rattle.history_model.specs.Operations.{operations, IsWrite, IsCompleted, value_of}
use Rattle.history_model.specs.declared.operation.Operation.{Operation}
use Rattle.history_model.specs.Naming.{IsNamed}
use Rattle.history_model.specs.declared.ids.Oper.{Oper}

-- a write of the value to the register, or a completed read of it
pub record IsMember (h : History) (r : ℕ) (v : Val) (o : Operation) : Type 0 where
  pub there : In o (operations h)
  pub register : o.register ≡ r
  pub value : value_of o ≡ Some v
  pub full : IsWrite o ⊎ IsCompleted o

-- the one write of a value to a register
abbrev pub IsWriteOf : History → ℕ → Val → Option Oper → Type 0
IsWriteOf h r v None = (o : Operation) → IsMember h r v o → IsWrite o → ⊥
IsWriteOf h r v (Some name) = (o : Operation) × IsNamed h name o × IsMember h r v o × IsWrite o

-- the greatest time of a call among the members
abbrev pub IsLastCall : History → ℕ → Val → Option ℕ → Type 0
IsLastCall h r v None = (o : Operation) → IsMember h r v o → ⊥
IsLastCall h r v (Some t) =
    ((o : Operation) × IsMember h r v o × (o.call ≡ t)) × ((o : Operation) → IsMember h r v o → o.call ≤ t)

-- the least time of a reply among the completed members
abbrev pub IsFirstReply : History → ℕ → Val → Option ℕ → Type 0
IsFirstReply h r v None = (o : Operation) → IsMember h r v o → IsCompleted o → ⊥
IsFirstReply h r v (Some t) =
    ((o : Operation) × IsMember h r v o × IsCompleted o × (o.reply ≡ t))
    × ((o : Operation) → IsMember h r v o → IsCompleted o → t ≤ o.reply)
