use Rattle.std.proofs.Common.{refl}
use Rattle.search_report.proofs.Answering.{answer-to}
use Rattle.search_report.proofs.whole.answered.Goals as goal

pub returns-clause-ok : goal.returns-clause-ok
returns-clause-ok g c =
    let read = c.in_ok-history.ensures.ok in
    let report = c.in_ok-report.report in (
      read.0,
      read.1,
      (
        report,
        answer-to read.0 c.in_ok-history.history report read.2 (c.in_ok-report.ensures _ read.2.is),
        c.in_ok-bytes.ensures,
        refl,
      ),
    )
