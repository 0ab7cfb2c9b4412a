use Rattle.level_report.proofs.Telling.{answer-of}
use Rattle.level_report.proofs.alone.check_alone.Goals as goal

pub returns-clause-ok : goal.returns-clause-ok
returns-clause-ok c =
    let made = c.in_ok-answer_of.field-0 in
    answer-of c.args.settings.asked c.args.settings.required c.args.input.now c.in_ok-arena.arena made.0.items
    made.1 c.in_ok-arena.ensures.ok c.in_ok-answer_of.ensures
