use Rattle.std.proofs.Common.{◌+◌}
use Rattle.history_model.specs.Operations.{of_register, operations}
use Rattle.reg_lamport.specs.Levels.{AllKeep}
use Rattle.reg_lamport.proofs.breaks.first_bad.Given as goal

abbrev pub invariant-loop-entry : goal.invariant-loop-entry
invariant-loop-entry l =
    AllKeep l.level (of_register l.list.register (operations l.arena)) l.from (l.from + l.entry-index)
