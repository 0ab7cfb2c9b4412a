use Rattle.std.proofs.Common.{ℕ, [], get_or, ap, ◌∙◌, Vec}
use Rattle.std.specs.Global.{Global}
use Rattle.std.proofs.lemmas.Option.{slice_get-get_or}
use Rattle.causal_order.specs.CausalOrders.{is_initial_at}
use Rattle.causal_order.proofs.Sifting.{initial-false, initial-true, sift_passed, sift_failed}
use Rattle.causal_order.proofs.listing.initial_in.Goals.{then-is_none+in_ok-push, else-is_none}
use Rattle.causal_order.proofs.listing.initial_in.Goals as goal

pub loop-place-preserved : goal.loop-place-preserved
loop-place-preserved c =
    let order = c.args.order.now in
    let i = c.loop-place.place-index in
    let test = is_initial_at c.args.ops.now in
    let l = c.requires.within i _ (slice_get-get_or order i 0 c.loop-place-test.true) in
    elim c.if-is_none.branch [
      | then-is_none+in_ok-push w ↦
          sift_passed test order [] c.loop-place.places.items c.if-is_none.places.items i
          c.loop-place-test.true
          (initial-true c.args.ops.now (get_or order i 0) _ l w.if-is_none.ensures) c.loop-place.invariant
          (ap (λ (v : Vec ℕ Global). v.items) w.places-is ∙ w.in_ok-push.ensures.items)
      | else-is_none w ↦
          ap (λ (v : Vec ℕ Global). v.items) w.places-is
          ∙ sift_failed test order [] c.loop-place.places.items i c.loop-place-test.true
          (initial-false c.args.ops.now (get_or order i 0) _ l w.if-is_none.ensures) c.loop-place.invariant
    ]

pub bounds-ops-place : goal.bounds-ops-place
bounds-ops-place c =
    c.requires.within c.loop-place.place-index _
    (slice_get-get_or c.args.order.now c.loop-place.place-index 0 c.loop-place-test.true)
