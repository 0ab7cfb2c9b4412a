use Rattle.level_report.specs.Ordered.{AreFirstLowEnds}
use Rattle.level_report.proofs.sooner.low_ends.Given as goal

abbrev pub invariant-loop-number : goal.invariant-loop-number
invariant-loop-number l = AreFirstLowEnds l.table.clusters.items l.number l.ends.items
