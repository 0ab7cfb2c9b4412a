use Rattle.reg_levels.specs.ReadLists.{AreReadLists}
use Rattle.reg_levels.proofs.listing.read_lists.Given as goal

abbrev pub invariant-loop-place : goal.invariant-loop-place
invariant-loop-place l = AreReadLists l.ops l.table.clusters.items l.place l.first.items l.next.items
