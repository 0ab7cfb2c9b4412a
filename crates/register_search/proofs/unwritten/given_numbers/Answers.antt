use Rattle.register_search.proofs.Needed.{none-given, given-more}
use Rattle.register_search.proofs.unwritten.given_numbers.Goals as goal

pub loop-op-init : goal.loop-op-init
loop-op-init c = none-given c.new-given.result c.new-given.ensures.none

pub loop-op-preserved : goal.loop-op-preserved
loop-op-preserved c =
    given-more c.args.ops.now c.loop-op.op-index _ c.loop-op.given c.add_given.new.given c.loop-op-test.true
    c.in_ok-add_given.ensures c.loop-op.invariant
