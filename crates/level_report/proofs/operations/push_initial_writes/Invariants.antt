-- What stands, and the initial writes of the registers that are left, are what stood and all of them.
use Rattle.std.proofs.Common.{◌≡◌, ◌++◌, length}
use Rattle.history_model.specs.Operations.{initial_writes}
use Rattle.level_report.proofs.operations.push_initial_writes.Given as goal

abbrev pub invariant-loop-number : goal.invariant-loop-number
invariant-loop-number l =
    l.ops.items ++ initial_writes l.number ≡ l.initial.ops.items ++ initial_writes (length l.arena.names)
