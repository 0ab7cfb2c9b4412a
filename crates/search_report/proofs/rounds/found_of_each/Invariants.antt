-- What is found so far is found of the first registers.
use Rattle.std.proofs.Common.{take}
use Rattle.search_report.specs.Registers.{AreFindingsOf}
use Rattle.search_report.proofs.rounds.found_of_each.Given as goal

abbrev pub invariant-loop-ops : goal.invariant-loop-ops
invariant-loop-ops l = AreFindingsOf l.lines (take l.ops-index l.registers) l.findings.items
