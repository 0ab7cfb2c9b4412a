use Rattle.std.proofs.Common.{arith}
use Rattle.causal_order.proofs.SessionClockLemmas.Held.{full-few}
use Rattle.causal_order.proofs.session_clocks.clocks.Clocks.held.Goals as goal

pub returns-clause-few : goal.returns-clause-few
returns-clause-few c = λ table sized.
    omega (arith, sized.held, sized.rows, full-few c.args.self.now.rows.items)
