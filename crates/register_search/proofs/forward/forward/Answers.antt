use Rattle.std.proofs.Common.{[], sym, subst}
use Rattle.configurations.specs.Reached.{IsReached}
use Rattle.configurations.specs.Runs.{AreInOrder}
use Rattle.register_search.specs.ByNumbers.{AreByNumbers}
use Rattle.register_search.proofs.Beginnings.{found-hopeless}
use Rattle.register_search.proofs.forward.forward.Goals as goal

pub returns-in-Hopeless : goal.returns-in-Hopeless
returns-in-Hopeless c =
    let ops = c.args.ops.now in
    let events = c.args.events.now in
    let numbered = c.deref.result.now in
    let same = subst (AreByNumbers ops) (sym c.deref.ensures.value) c.in_ok-numbered.ensures in
    let none =
    subst (λ found. AreInOrder numbered [] events
    → IsReached numbered events found) c.in-Hopeless.is c.in_ok-place.ensures in
    found-hopeless ops events numbered c.in-Hopeless.place c.hopeless.result same none c.hopeless.ensures
