use Rattle.level_report.proofs.Strongest.{some-ordered}
use Rattle.level_report.proofs.register.order_if.Goals as goal

pub lines_if-requires-clause-ordered : goal.lines_if-requires-clause-ordered
lines_if-requires-clause-ordered c =
    some-ordered c.args.ops.now c.args.table.now.clusters.items c.args.atomic c.args.weaker
    c.in_ok-ordered.ordered c.requires.weaker c.in_ok-ordered.ensures
