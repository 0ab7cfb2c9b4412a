use Rattle.std.proofs.Common.{arith, sym, subst}
use Rattle.causal_order.specs.Covering.{IsNewest}
use Rattle.causal_order.proofs.newer.newest_between.Goals as goal

pub returns-in_err-last : goal.returns-in_err-last
returns-in_err-last c = λ ops table i.
    subst (IsNewest ops table c.args.register c.args.session c.args.from c.args.below)
    (sym c.from_residual.ensures)
    (λ p l m w. c.in_err-last.ensures ops table i p m w)

pub returns-else-last-from : goal.returns-else-last-from
returns-else-last-from c = λ ops table i p l m w.
    let last = (c.in_ok-last.ensures ops table i).2 p m w in
    absurd (omega (arith, last, l, c.if-last-from.false))
