use Rattle.std.proofs.Common.{◌≡◌, ◌∙◌, [], map, subst, suc, sym, take}
use Rattle.configurations.specs.Reached.{IsReached}
use Rattle.configurations.specs.Runs.{AreInOrder}
use Rattle.configurations.specs.Eased.{ease}
use Rattle.configurations.proofs.Easing.{alive-eased, in_order-eased}
use Rattle.configurations.proofs.eased.eased_run.Goals as goal

pub returns-in-Hopeless : goal.returns-in-Hopeless
returns-in-Hopeless g c = λ in_order alive.
    let ops = c.args.ops.now in
    let events = c.args.events.now in
    let same : c.deref.result.now ≡ map ease ops = c.deref.ensures.value ∙ c.in_ok-eased.ensures in
    let told =
    c.in_ok-place.ensures
    (subst (λ xs. AreInOrder xs [] events) (sym same) (in_order-eased ops [] events in_order)) in
    let hopeless = subst (λ xs. IsReached xs events c.in_ok-place.field-0) same told in
    (subst (λ f. IsReached (map ease ops) events f) c.in-Hopeless.is hopeless)
    (alive-eased ops (take (suc c.in-Hopeless.place) events) 0 [] [] alive)
