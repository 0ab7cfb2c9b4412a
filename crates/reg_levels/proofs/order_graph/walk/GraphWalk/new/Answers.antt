use Rattle.std.proofs.Common.{rules}
use Rattle.reg_levels.proofs.OrderGraphLemmas.Walking.{walked-begin}
use Rattle.reg_levels.proofs.order_graph.walk.GraphWalk.new.Goals as goal

pub returns-clause-walk : goal.returns-clause-walk
returns-clause-walk c = λ edges linked.
    walked-begin c.args.nodes edges c.args.incoming.now.first.items c.args.incoming.now.next.items _ _ _ _
    linked
    (search rules) (c.in_ok-vec.ensures.items_if_clones_equal (λ y e. search rules)) c.new.ensures.items
    (search rules)
