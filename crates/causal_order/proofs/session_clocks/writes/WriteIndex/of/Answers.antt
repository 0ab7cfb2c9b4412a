use Rattle.causal_order.proofs.SessionClockLemmas.Indexed.{sorted-writes}
use Rattle.causal_order.proofs.session_clocks.writes.WriteIndex.of.Goals as goal

pub returns : goal.returns
returns c =
    sorted-writes c.args.ops.now c.args.table.now c.in_ok-index.index c.sort.new.self c.in_ok-index.ensures
    c.sort.ensures
