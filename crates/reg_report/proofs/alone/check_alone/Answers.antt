use Rattle.std.proofs.Common.{false}
use Rattle.reg_report.proofs.Answering.{answer-of-arena}
use Rattle.reg_report.proofs.alone.check_alone.Goals as goal

pub returns-clause-ok : goal.returns-clause-ok
returns-clause-ok c =
    answer-of-arena false c.args.input.now c.in_ok-arena.arena c.in_ok-report_alone.field-0
    c.in_ok-arena.ensures.ok c.in_ok-report_alone.ensures
