-- Each name, and the value behind it.
use Rattle.history_text.specs.declared.event.Operations.TheVariants.{WithCas}
use Rattle.history_text.proofs.Added.{adds_ok, adds_from, adds_to}
use Rattle.history_text.proofs.flat_members.cas_member.Goals as goal

pub returns-in-Some : goal.returns-in-Some
returns-in-Some c =
    adds_ok WithCas c.args.found c.args.text.now c.in-Some.behind.now c.in_ok-ok.rest.now c.in_ok-ok.ok
    c.in-Some.ensures c.in_ok-ok.ensures

pub returns-in-Some-named : goal.returns-in-Some-named
returns-in-Some-named c =
    adds_from WithCas c.args.found c.args.text.now c.in-Some-named.behind.now c.in_ok-from.rest.now
    c.in_ok-from.from c.in-Some-named.ensures c.in_ok-from.ensures

pub returns-in-Some-named-2 : goal.returns-in-Some-named-2
returns-in-Some-named-2 c =
    adds_to WithCas c.args.found c.args.text.now c.in-Some-named-2.behind.now c.in_ok-to.rest.now
    c.in_ok-to.to c.in-Some-named-2.ensures c.in_ok-to.ensures
