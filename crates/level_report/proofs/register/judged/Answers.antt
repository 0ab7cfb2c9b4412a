use Rattle.level_report.proofs.register.judged.Goals as goal

pub returns-in-Err : goal.returns-in-Err
returns-in-Err c = c.unwritten.ensures c.args.asked
