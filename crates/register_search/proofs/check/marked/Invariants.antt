use Rattle.std.proofs.Common.{take}
use Rattle.register_search.proofs.Checking.{AreMarked}
use Rattle.register_search.proofs.check.marked.Given as goal

abbrev pub invariant-loop-number : goal.invariant-loop-number
invariant-loop-number l = AreMarked l.count (take l.number-index l.order) l.marks.items
