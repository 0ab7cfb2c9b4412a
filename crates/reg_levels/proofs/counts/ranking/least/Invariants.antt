use Rattle.reg_levels.specs.Counts.Marks.{AreLeast}
use Rattle.reg_levels.proofs.counts.ranking.least.Given as goal

abbrev pub invariant-loop-done : goal.invariant-loop-done
invariant-loop-done l = AreLeast l.marks l.done l.least.items
