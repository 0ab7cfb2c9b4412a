use Rattle.serde_json.proofs.FreeTexts.{text_of_value}
use Rattle.report_text.specs.Search.Text.{summary_json}
use Rattle.report_text.proofs.SearchLemmas.Fields.{summary_has_no_float}
use Rattle.report_text.proofs.search.written.summary_line.Goals as goal

pub returns-in-Ok : goal.returns-in-Ok
returns-in-Ok c =
    let sent = c.in-Ok.ensures.events in
    text_of_value (summary_json c.args.report.now) sent.0 c.in-Ok.line.items sent.1 sent.2
    (summary_has_no_float c.args.report.now)
