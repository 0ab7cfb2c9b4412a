-- The number that the passed digits write.
use Rattle.std.proofs.Common.{◌≡◌, ◌<◌, ◌^◌, ◌++◌, length, decimal}
use Rattle.history_text.proofs.scan.unsigned.Given as goal

abbrev pub invariant-loop-digit : goal.invariant-loop-digit
invariant-loop-digit l = record {
  some : 0 < l.number;
  bound : l.number < 2 ^ 63;
  passed : l.text ≡ decimal l.number ++ l.rest;
}

abbrev pub decreases-loop-digit : goal.decreases-loop-digit
decreases-loop-digit l = length l.rest
