use Rattle.std.proofs.Common.{◌≡◌, length}
use Rattle.configurations.proofs.Calling.{IsCalledTo}
use Rattle.configurations.proofs.call.with_calls.Given as goal

abbrev pub invariant-loop-at : goal.invariant-loop-at
invariant-loop-at g l = record {
  called : IsCalledTo l.table l.slot l.fn.configs l.configs l.at;
  long : length l.configs.list.items ≡ length l.fn.configs.list.items;
}
