use Rattle.std.proofs.Common.{◌≡◌}
use Rattle.std.specs.Prelude.{map, take}
use Rattle.history_text.specs.Reading.{reading_of}
use Rattle.history_text.proofs.read.read_in_order.Given as goal

abbrev pub invariant-loop-span : goal.invariant-loop-span
invariant-loop-span l = record {
  read : l.lines.items ≡ map (reading_of l.bytes) (take l.span-index l.spans);
}
