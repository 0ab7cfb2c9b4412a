use Rattle.level_report.specs.Registers.{AreFirstLines}
use Rattle.level_report.proofs.registers.register_lines_alone.Given as goal

abbrev pub invariant-loop-number : goal.invariant-loop-number
invariant-loop-number l = AreFirstLines l.arena l.asked l.number l.lines.items
