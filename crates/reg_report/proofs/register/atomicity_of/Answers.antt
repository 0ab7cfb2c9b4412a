use Rattle.reg_report.proofs.register.atomicity_of.Goals as goal

pub returns-in-Order : goal.returns-in-Order
returns-in-Order c = c.ordered.ensures c.args.regular.verdict
