use Rattle.std.proofs.Common.{◌≡◌, ◌++◌, flat_map}
use Rattle.history_text.specs.Reading.{history_lines}
use Rattle.history_text.proofs.read.read_lines.Given as goal

-- the lines joined so far, and behind them those of the parts that are left
abbrev pub invariant-loop-part : goal.invariant-loop-part
invariant-loop-part g l = record {
  read : l.lines.items ++ flat_map (λ part. part.items) l.part-iterator.rest.items ≡ history_lines l.fn.bytes;
}
