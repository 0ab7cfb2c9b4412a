-- Each name, and the value behind it.
use Rattle.std.proofs.Common.{IfSome, subst, sym}
use Rattle.history_text.specs.Flat.{Adds}
use Rattle.history_text.proofs.Added.{adds_process, adds_event, adds_op, adds_register, adds_value}
use Rattle.history_text.proofs.flat_members.member.Goals as goal

pub returns-in-Some : goal.returns-in-Some
returns-in-Some c =
    adds_process c.args.operations c.args.found c.args.text.now c.in-Some.behind.now c.in_ok-process.rest.now
    c.in_ok-process.process c.in_ok-process.ensures.limit c.in-Some.ensures c.in_ok-process.ensures.text

pub returns-in-Some-named : goal.returns-in-Some-named
returns-in-Some-named c =
    adds_event c.args.operations c.args.found c.args.text.now c.in-Some-named.behind.now
    c.in_ok-event.rest.now
    c.in_ok-event.event c.in-Some-named.ensures c.in_ok-event.ensures

pub returns-in-Some-named-2 : goal.returns-in-Some-named-2
returns-in-Some-named-2 c =
    adds_op c.args.operations c.args.found c.args.text.now c.in-Some-named-2.behind.now c.in_ok-op.rest.now
    c.in_ok-op.op
    c.in_ok-op.ensures.takes c.in-Some-named-2.ensures c.in_ok-op.ensures.text

pub returns-in-Some-named-3 : goal.returns-in-Some-named-3
returns-in-Some-named-3 c =
    adds_register c.args.operations c.args.found c.args.text.now c.in-Some-named-3.behind.now
    c.in_ok-register.rest.now
    c.in_ok-register.register c.in-Some-named-3.ensures c.in_ok-register.ensures

pub returns-in-Some-named-4 : goal.returns-in-Some-named-4
returns-in-Some-named-4 c =
    adds_value c.args.operations c.args.found c.args.text.now c.in-Some-named-4.behind.now
    c.in_ok-value.rest.now
    c.in_ok-value.value c.in-Some-named-4.ensures c.in_ok-value.ensures

pub returns-in-WithCas : goal.returns-in-WithCas
returns-in-WithCas c =
    subst (λ o. IfSome c.cas_member.result (λ r. Adds o c.args.text.now c.args.found r.0 r.1.now))
    (sym c.in-WithCas.is) c.cas_member.ensures
