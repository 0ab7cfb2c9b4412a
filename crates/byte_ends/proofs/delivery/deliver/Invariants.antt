-- The parts so far are out, and no push has failed.
use Rattle.std.proofs.Common.{◌≡◌, take}
use Rattle.std.specs.Io.KnownBytes.{Appends}
use Rattle.byte_ends.proofs.Pushing.{bytes-of}
use Rattle.byte_ends.proofs.delivery.deliver.Given as goal

abbrev pub invariant-loop-part : goal.invariant-loop-part
invariant-loop-part g l = record {
  out : Appends (g.S.Sink.taken l.initial.sink) (g.S.Sink.taken l.sink)
      (bytes-of (take l.part-index l.parts));
  failures : g.S.Sink.failed l.sink ≡ g.S.Sink.failed l.initial.sink;
}
