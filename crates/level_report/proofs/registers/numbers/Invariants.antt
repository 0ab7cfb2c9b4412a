use Rattle.level_report.specs.Registers.{AreNumbers}
use Rattle.level_report.proofs.registers.numbers.Given as goal

abbrev pub invariant-loop-number : goal.invariant-loop-number
invariant-loop-number l = AreNumbers l.number l.ids.items
