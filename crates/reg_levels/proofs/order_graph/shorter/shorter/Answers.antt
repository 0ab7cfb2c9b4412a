use Rattle.std.proofs.Common.{arith}
use Rattle.reg_levels.proofs.OrderGraphLemmas.Places.{place-inside}
use Rattle.reg_levels.proofs.order_graph.shorter.shorter.Goals as goal

pub returns-then-branch : goal.returns-then-branch
returns-then-branch c =
    let met = c.in_ok-spread.ensures.met in
    let at = place-inside c.spread.new.self.met.items c.loop-place.place
    (omega (
      arith,
      c.in_ok-spread.ensures.longer,
      c.if-place-len.false,
      c.len.ensures,
      c.loop-place.search.met.ok.0,
    )) in
    c.in_ok-way_back.ensures _ c.args.edges.now c.args.start at.0 met at.1
    (c.in_ok-spread.ensures.found c.if-branch.true at.0 at.1)
