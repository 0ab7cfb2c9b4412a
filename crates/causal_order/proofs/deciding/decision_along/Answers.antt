use Rattle.std.proofs.Common.{subst}
use Rattle.causal_order.specs.Walks.{IsWalked}
use Rattle.causal_order.proofs.Answering.{all-settled, broken-decision}
use Rattle.causal_order.proofs.deciding.decision_along.Goals as goal

pub decision_of-requires-clause-settled : goal.decision_of-requires-clause-settled
decision_of-requires-clause-settled c =
    let walked = subst (IsWalked c.args.ops.now c.args.table.now c.args.order.now c.args.graph) c.in-Whole.is
    c.in_ok-walk.ensures in
    all-settled c.args.ops.now c.args.table.now c.in-Whole.graph.edges.items c.args.order.now
    c.requires.all walked.2

pub returns-in-Beyond : goal.returns-in-Beyond
returns-in-Beyond c =
    let walked = subst (IsWalked c.args.ops.now c.args.table.now c.args.order.now c.args.graph) c.in-Beyond.is
    c.in_ok-walk.ensures in
    (c.args.table.now, c.requires.table.is_table, walked)

pub returns-in_ok-stale_steps-in-Stale : goal.returns-in_ok-stale_steps-in-Stale
returns-in_ok-stale_steps-in-Stale c =
    let walked = subst (IsWalked c.args.ops.now c.args.table.now c.args.order.now c.args.graph) c.in-Stale.is
    c.in_ok-walk.ensures in
    broken-decision c.args.ops.now c.in_ok-stale_steps-in-Stale.field-0 c.broken.result c.broken.ensures
    (c.in_ok-stale_steps-in-Stale.ensures c.args.ops.now c.requires.table walked)
