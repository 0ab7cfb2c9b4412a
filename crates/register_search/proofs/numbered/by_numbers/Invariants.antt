-- The operations so far, by the numbers of a map.
use Rattle.std.proofs.Common.{take}
use Rattle.std.specs.List.{AllZip}
use Rattle.register_search.specs.ByNumbers.{AreNumbers, IsByNumber, number_in}
use Rattle.register_search.proofs.numbered.by_numbers.Given as goal

abbrev pub invariant-loop-op : goal.invariant-loop-op
invariant-loop-op l = record {
  numbers : AreNumbers l.numbers;
  each : AllZip (IsByNumber (number_in l.numbers)) (take l.op-index l.ops) l.numbered.items;
}
