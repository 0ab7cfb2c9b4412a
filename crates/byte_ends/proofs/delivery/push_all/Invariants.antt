-- A beginning of the bytes is out, and no push has failed.
use Rattle.std.proofs.Common.{◌≡◌, ◌-◌, ◌≤◌, length, take}
use Rattle.std.specs.Io.KnownBytes.{Appends}
use Rattle.byte_ends.proofs.delivery.push_all.Given as goal

abbrev pub invariant-loop-at : goal.invariant-loop-at
invariant-loop-at g l =
    (l.at ≤ length l.bytes)
    × Appends (g.S.Sink.taken l.initial.sink) (g.S.Sink.taken l.sink) (take l.at l.bytes)
    × (g.S.Sink.failed l.sink ≡ g.S.Sink.failed l.initial.sink)

abbrev pub decreases-loop-at : goal.decreases-loop-at
decreases-loop-at g l = length l.bytes - l.at
