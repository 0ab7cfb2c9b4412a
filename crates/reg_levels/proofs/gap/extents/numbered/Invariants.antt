use Rattle.reg_levels.specs.Gap.Conflicts.{AreExtentsBelow}
use Rattle.reg_levels.proofs.gap.extents.numbered.Given as goal

abbrev pub invariant-loop-number : goal.invariant-loop-number
invariant-loop-number l = AreExtentsBelow l.ops l.table.clusters.items l.number l.extents.items
