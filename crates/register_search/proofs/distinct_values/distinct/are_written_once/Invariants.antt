-- The operations so far write their values once, and the set has these.
use Rattle.std.proofs.Common.{take}
use Rattle.register_search.specs.DistinctValues.WrittenOnce.{HasWritten}
use Rattle.register_search.proofs.distinct_values.distinct.are_written_once.Given as goal

abbrev pub invariant-loop-op : goal.invariant-loop-op
invariant-loop-op l = HasWritten (take l.op-index l.ops) l.written
