use Rattle.report_text.proofs.JsonFieldLemmas.Fields.{one_of}
use Rattle.report_text.proofs.CheckLemmas.Fields.{summary_count}
use Rattle.report_text.proofs.check.send.summary_len.Goals as goal

pub returns : goal.returns
returns c =
    let report = c.args.report.now in
    summary_count report _
    (one_of report.order c.is_some.result c.one_if.result c.is_some.ensures c.one_if.ensures)
