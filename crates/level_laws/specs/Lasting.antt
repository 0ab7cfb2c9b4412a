-- Operations that are recorded as lasting longer than they did, as a recorder far from the store sees them
-- (this project's own).
use Rattle.std.specs.Prelude.{◌≡◌, ◌≤◌}
use Rattle.history_model.specs.declared.operation.Operation.{Operation}

-- b is the record of a: it is called no later and ends no sooner, and all else is the same
pub record IsLongRecordOf (a b : Operation) : Type 0 where
  pub call : b.call ≤ a.call
  pub reply : a.reply ≤ b.reply
  pub completed : b.completed ≡ a.completed
  pub process : b.process ≡ a.process
  pub register : b.register ≡ a.register
  pub act : b.act ≡ a.act
