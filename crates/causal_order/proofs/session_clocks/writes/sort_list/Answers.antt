use Rattle.std.proofs.Common.{rules}
use Rattle.causal_order.proofs.SessionClockLemmas.Indexed.{from-sort}
use Rattle.causal_order.proofs.session_clocks.writes.sort_list.Goals as goal

pub returns-clause-ascending : goal.returns-clause-ascending
returns-clause-ascending c =
    from-sort c.sort_unstable_by_key.new.self.items c.sort_unstable_by_key.ensures.sorted (λ a r q k.
    search rules)
