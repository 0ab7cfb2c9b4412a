-- An operation as an arena shows it, and what holds of a register's operations.
use Rattle.std.specs.Prelude.{ℕ, ◌<◌, ◌^◌, List, count_by, is_some, length, unwrap_or}
use Rattle.history_model.specs.Acts.{plain_act}
use Rattle.history_model.specs.Operations.{is_write, IsHistory}
use Rattle.history_model.specs.declared.op.Op.{Op}
use Rattle.history_model.specs.declared.operation.Operation.{Operation}
use Rattle.level_laws.specs.Causal.{IsWhole}
use Rattle.causal_order.specs.SessionClocks.Sessions.{IsCalledInOrder}
use Rattle.reg_levels.specs.Clusters.Places.{AreFew, IsByCall}

-- the operation that is shown; a missing reply has the time `end`
abbrev pub operation_shown : ℕ → Op → Operation
operation_shown end op = record {
  line = op.line;
  call = op.call;
  reply = unwrap_or op.reply end;
  completed = is_some op.reply;
  process = op.process;
  register = op.register.0;
  act = plain_act op.kind op.value;
}

-- all that the floors below ask of a register's operations, among which is the initial write
pub record AreReady (ops : List Operation) : Type 0 where
  pub history : IsHistory ops
  pub by_call : IsByCall ops
  pub few : AreFew ops
  pub initial : 0 < count_by is_write ops

-- all that the floors below ask of a whole history's operations
pub record AreAllReady (ops : List Operation) : Type 0 where
  pub whole : IsWhole ops
  pub called : IsCalledInOrder ops
  pub few : length ops < 2 ^ 22
