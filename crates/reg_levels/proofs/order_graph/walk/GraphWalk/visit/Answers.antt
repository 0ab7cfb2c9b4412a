use Rattle.std.proofs.Common.{arith}
use Rattle.reg_levels.proofs.OrderGraphLemmas.Turning.{entered, entered_keeps, entered_met}
use Rattle.reg_levels.proofs.order_graph.walk.GraphWalk.visit.Goals as goal

pub loop-self-init : goal.loop-self-init
loop-self-init c = record {
  walk =
      entered c.args.edges.now c.args.node c.args.self.now c.enter.new.self c.requires.walk
      c.in_ok-enter.ensures
      (λ i u l a. absurd (omega (arith, l, c.requires.path)));
  goes = entered_keeps c.args.node c.args.self.now c.enter.new.self c.in_ok-enter.ensures;
  met = entered_met c.args.node c.args.self.now c.enter.new.self c.in_ok-enter.ensures;
}
