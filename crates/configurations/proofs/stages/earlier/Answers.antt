use Rattle.std.proofs.Common.{◌+◌, [], arith, subst, suc, sym, take}
use Rattle.std.proofs.lemmas.List.{take-take}
use Rattle.configurations.specs.Reached.{IsReached}
use Rattle.configurations.specs.Runs.{AliveFree}
use Rattle.configurations.proofs.Going.{in_order-take}
use Rattle.configurations.proofs.stages.earlier.Goals as goal

pub returns-then-first-place : goal.returns-then-first-place
returns-then-first-place g c = λ in_order alive.
    let ops = c.args.ops.now in
    let events = c.args.events.now in
    let n = c.place_of-place.result + 1 in
    let told = c.in_ok-first.ensures (in_order-take ops [] n events in_order) in
    let first = c.in-Hopeless.first in
    (subst (λ f. IsReached ops (take n events) f) c.in-Hopeless.is told)
    (subst (λ xs. AliveFree ops 0 [] [] xs)
    (sym (take-take (suc first) n events (omega (arith, c.if-first-place.true)))) alive)
