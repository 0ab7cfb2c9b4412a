use Rattle.causal_order.proofs.SessionClockLemmas.Latest.{latest-none, latest-some}
use Rattle.causal_order.proofs.session_clocks.previous.note.Goals as goal

pub returns-in-Some-clause-latest : goal.returns-in-Some-clause-latest
returns-in-Some-clause-latest c = λ numbers at h.
    latest-some numbers c.args.place c.args.number at c.in-Some.session c.in-Some.is c.args.latest.now.items
    (c.requires.below c.in-Some.session c.in-Some.is) h

pub returns-in_default-clause-latest : goal.returns-in_default-clause-latest
returns-in_default-clause-latest c = λ numbers at h.
    latest-none numbers c.args.place c.args.number at c.in_default.is c.args.latest.now.items h
