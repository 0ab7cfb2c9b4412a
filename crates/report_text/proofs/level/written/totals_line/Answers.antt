use Rattle.serde_json.proofs.FreeTexts.{text_of_value}
use Rattle.report_text.specs.Level.Text.{totals_json}
use Rattle.report_text.proofs.LevelLemmas.Fields.{totals_have_no_float}
use Rattle.report_text.proofs.level.written.totals_line.Goals as goal

pub returns-in-Ok : goal.returns-in-Ok
returns-in-Ok c =
    let sent = c.in-Ok.ensures.events in
    text_of_value (totals_json c.args.totals.now) sent.0 c.in-Ok.line.items sent.1 sent.2
    (totals_have_no_float c.args.totals.now)
