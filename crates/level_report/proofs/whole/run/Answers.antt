-- The bytes that were made are those that are out, or of which a beginning is.
use Rattle.std.proofs.Common.{subst, append-nil}
use Rattle.std.specs.Io.KnownBytes.{Appends}
use Rattle.byte_ends.specs.Ends.{AppendsBeginning}
use Rattle.level_report.proofs.whole.run.Goals as goal

pub returns-in-Ok-clause-report : goal.returns-in-Ok-clause-report
returns-in-Ok-clause-report g c =
    let made = c.in_ok-bytes.ensures.ok in (
      made.0,
      made.1,
      made.3,
      c.in_ok-bytes.bytes.items,
      made.2,
      subst (Appends (g.W.Sink.taken c.args.sink.now) (g.W.Sink.taken c.deliver.new.sink))
          (append-nil c.in_ok-bytes.bytes.items) c.in-Ok.ensures.ok,
    )

pub returns-in-Ok-clause-level : goal.returns-in-Ok-clause-level
returns-in-Ok-clause-level g c =
    let made = c.in_ok-bytes.ensures.ok in (made.0, made.1, made.3)

pub returns-clause-beginning : goal.returns-clause-beginning
returns-clause-beginning g c = λ _.
    let made = c.in_ok-bytes.ensures.ok in (
      made.0,
      made.1,
      c.in_ok-bytes.bytes.items,
      made.2,
      subst (AppendsBeginning (g.W.Sink.taken c.args.sink.now) (g.W.Sink.taken c.deliver.new.sink))
          (append-nil c.in_ok-bytes.bytes.items) c.in-Err.ensures.err,
    )
