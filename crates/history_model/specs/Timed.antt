-- What holds of the calls of one register of any history.
use Rattle.std.specs.Prelude.{◌≡◌, ℕ, ◌<◌, ◌≤◌, false, List, slice_get, Some}
use Rattle.history_model.specs.Lists.{In}
use Rattle.history_model.specs.declared.operation.Operation.{Operation}
use Rattle.history_model.specs.Operations.{IsCompleted}

-- They are of the register, stand by call after the initial write, each ends after
-- its call, no two events share a time, and a missing reply comes after every call.
pub record AreTimedCalls (r : ℕ) (ops : List Operation) : Type 0 where
  pub register : (a : Operation) → In a ops → a.register ≡ r
  pub called : (a : Operation) → In a ops → 2 ≤ a.call
  pub ascending : (j k : ℕ) (a b : Operation) → j < k → slice_get ops j ≡ Some a → slice_get ops k ≡ Some b
      → a.call < b.call
  pub life : (a : Operation) → In a ops → a.call < a.reply
  pub apart : (a b : Operation) → In a ops → In b ops → a.reply ≡ b.call → ⊥
  pub replies : (a b : Operation) → In a ops → In b ops → IsCompleted a → IsCompleted b → a.reply ≡ b.reply
      → a ≡ b
  pub pending : (a b : Operation) → In a ops → In b ops → a.completed ≡ false → b.call < a.reply
