use Rattle.std.proofs.Common.{arith}
use Rattle.causal_order.proofs.Covers.{known-more}
use Rattle.causal_order.proofs.newer.any_known.Goals as goal

pub loop-session-preserved : goal.loop-session-preserved
loop-session-preserved c = λ ops table i.
    known-more ops table c.args.register c.args.row.now c.loop-session.session
    (c.in_default.ensures ops table i) (c.loop-session.invariant ops table i)

pub returns : goal.returns
returns c = λ ops table i s p l. c.loop-session.invariant ops table i s p (omega
    (arith, l, c.loop-session-test.false))

pub returns-in-Some : goal.returns-in-Some
returns-in-Some c = λ ops table i.
    let h = c.in-Some.ensures ops table i in (c.loop-session.session, c.loop-session-test.true, h.0, h.1)
