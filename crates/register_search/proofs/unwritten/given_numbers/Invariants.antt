use Rattle.std.proofs.Common.{take}
use Rattle.register_search.specs.Unwritten.{HasGiven}
use Rattle.register_search.proofs.unwritten.given_numbers.Given as goal

abbrev pub invariant-loop-op : goal.invariant-loop-op
invariant-loop-op l = HasGiven (take l.op-index l.ops) l.given
