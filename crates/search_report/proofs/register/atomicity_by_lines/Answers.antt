use Rattle.std.proofs.Common.{subst}
use Rattle.register_search.specs.Verdicts.{IsVerdict}
use Rattle.search_report.proofs.Told.{no-told}
use Rattle.search_report.proofs.register.atomicity_by_lines.Goals as goal

pub returns-in_ok-lines_before-in-No : goal.returns-in_ok-lines_before-in-No
returns-in_ok-lines_before-in-No c = λ r timed first verdict.
    let lines = c.args.lines.now in
    let ops = c.args.ops.now in
    let refuted = subst (IsVerdict r ops) c.in-No.is verdict in
    no-told lines r ops timed first c.in-No.reply c.reply_line.result c.in_ok-open_lines-in-No.field-0
    c.in-No.before c.in_ok-lines_before-in-No.field-0 c.reply_line.ensures
    c.in_ok-open_lines-in-No.ensures c.in_ok-lines_before-in-No.ensures refuted.0 refuted.1
