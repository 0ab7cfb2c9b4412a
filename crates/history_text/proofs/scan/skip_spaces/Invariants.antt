-- Only spaces were passed.
use Rattle.std.proofs.Common.{length}
use Rattle.history_text.specs.Flat.{Spaced}
use Rattle.history_text.proofs.scan.skip_spaces.Given as goal

abbrev pub invariant-loop-byte : goal.invariant-loop-byte
invariant-loop-byte l = Spaced l.text l.rest

abbrev pub decreases-loop-byte : goal.decreases-loop-byte
decreases-loop-byte l = length l.rest
