use Rattle.level_report.proofs.Telling.{answer-of}
use Rattle.level_report.proofs.whole.answered.Goals as goal

pub returns-clause-ok : goal.returns-clause-ok
returns-clause-ok g c =
    let read = c.in_ok-arena.ensures.ok in
    let made = c.in_ok-answer_of.field-0 in
    let asked = c.args.settings.asked in
    let level = c.args.settings.required in
    let told = answer-of asked level read.0 c.in_ok-arena.arena made.0.items made.1 read.2
    c.in_ok-answer_of.ensures in (read.0, read.1, told.0, told.1)
