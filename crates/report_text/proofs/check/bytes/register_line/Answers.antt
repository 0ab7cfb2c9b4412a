use Rattle.serde_json.proofs.FreeTexts.{text_of_value}
use Rattle.report_text.specs.Check.Text.{register_json}
use Rattle.report_text.proofs.CheckLemmas.Fields.{register_has_no_float}
use Rattle.report_text.proofs.check.bytes.register_line.Goals as goal

pub returns-in-Ok : goal.returns-in-Ok
returns-in-Ok c =
    let sent = c.in-Ok.ensures.events in
    text_of_value (register_json c.args.reg.now) sent.0 c.in-Ok.line.items sent.1 sent.2
    (register_has_no_float c.args.reg.now)
