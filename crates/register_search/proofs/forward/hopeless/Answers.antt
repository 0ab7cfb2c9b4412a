use Rattle.std.proofs.Common.{◌≡◌, slice_get, Some, length, refl, ap, ◌∙◌, rules}
use Rattle.std.proofs.lemmas.Option.{slice_get_read}
use Rattle.configurations.specs.declared.moment.Moment.TheVariants.{Reply}
use Rattle.register_search.proofs.Beginnings.{refuted-at}
use Rattle.register_search.proofs.forward.hopeless.Goals as goal

pub returns-in_ok-order_of-in-Some-Reply : goal.returns-in_ok-order_of-in-Some-Reply
returns-in_ok-order_of-in-Some-Reply c =
    let events = c.args.events.now in
    let place = c.args.place in
    let reply = c.in-Some-Reply.reply in
    let event = c.in-Some-Reply.field-0.now in
    let there : slice_get events place ≡ Some event =
    slice_get_read events (length events) place event refl (search rules)
    (c.in-Some-Reply.ensures.lookup).1 in
    let at : slice_get events place ≡ Some (Reply reply) = there ∙ ap Some c.in-Some-Reply.field-0-is in
    λ r line none. refuted-at r c.args.ops.now events line place reply at none
