use Rattle.std.proofs.Common.{arith, ◌∙◌}
use Rattle.reg_levels.proofs.OrderGraphLemmas.Places.{place-inside}
use Rattle.causal_order.proofs.Meeting.{met-none}
use Rattle.causal_order.proofs.knew.KnewSearch.knew.Goals as goal

pub loop-at-init : goal.loop-at-init
loop-at-init c = record {
  stamps = c.in_ok-begin.ensures.stamps;
  met = met-none c.args.table.now c.args.read c.begin.new.self.met.items c.requires.read
      c.in_ok-begin.ensures.met;
}

pub way_back-requires-clause-before : goal.way_back-requires-clause-before
way_back-requires-clause-before c = (c.in_ok-spread.ensures.met c.args.read c.loop-at.invariant.met).before

pub returns-then-branch-clause-found : goal.returns-then-branch-clause-found
returns-then-branch-clause-found c =
    let met = c.in_ok-spread.ensures.met c.args.read c.loop-at.invariant.met in
    let m = place-inside c.spread.new.self.met.items c.loop-at.at
    (omega (
      arith,
      c.in_ok-spread.ensures.longer,
      c.if-at-len.false,
      c.loop-at.self.met.ok.0,
      c.len.ensures,
    )) in
    c.in_ok-knew.ensures c.args.table.now c.args.read m.0 met m.1
    (c.in_ok-spread.ensures.found c.if-branch.true m.0 m.1)

pub loop-at-preserved : goal.loop-at-preserved
loop-at-preserved c = record {
  stamps = c.in_ok-spread.ensures.stamps ∙ c.loop-at.invariant.stamps;
  met = c.in_ok-spread.ensures.met c.args.read c.loop-at.invariant.met;
}
