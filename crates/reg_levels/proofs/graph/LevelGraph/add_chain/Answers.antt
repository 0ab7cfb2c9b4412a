use Rattle.reg_levels.proofs.Chaining.{chain_more}
use Rattle.reg_levels.proofs.graph.LevelGraph.add_chain.Goals as goal

pub loop-place-preserved : goal.loop-place-preserved
loop-place-preserved c =
    chain_more c.args.count c.loop-place.place c.args.self.now c.loop-place.self c.join.new.self
    c.join_if.new.self _ _
    c.loop-place-test.true c.in_ok-join.ensures c.in_ok-join_if.ensures c.loop-place.invariant
