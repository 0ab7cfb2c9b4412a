-- What stands, and the calls among the events that are left, are what stood and all calls.
use Rattle.std.proofs.Common.{◌≡◌, ◌++◌, ◌+◌, drop, length}
use Rattle.history_model.specs.Operations.{calls, calls_from}
use Rattle.level_report.proofs.operations.push_calls.Given as goal

abbrev pub invariant-loop-number : goal.invariant-loop-number
invariant-loop-number l =
    l.ops.items ++ calls_from (length l.arena.events + 2) (l.number + 2) (drop l.number l.arena.events)
    ≡ l.initial.ops.items ++ calls l.arena.events
