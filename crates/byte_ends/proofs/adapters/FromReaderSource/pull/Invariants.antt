-- Reads that were interrupted took nothing.
use Rattle.std.proofs.Common.{◌≡◌, length}
use Rattle.std.specs.Io.KnownBytes.{Keeps}
use Rattle.byte_ends.proofs.adapters.FromReaderSource.pull.Given as goal

abbrev pub invariant-loop : goal.invariant-loop
invariant-loop g l =
    Keeps (g.R.Read.remaining l.initial.self.inner) (g.R.Read.remaining l.self.inner)
    × (l.self.failures ≡ l.initial.self.failures)
    × (length l.into ≡ length l.initial.into)
