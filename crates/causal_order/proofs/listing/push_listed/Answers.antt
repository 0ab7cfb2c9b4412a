use Rattle.std.proofs.Common.{◌<◌, ℕ, true, false, length, get_or, arith, ap, ◌∙◌, Vec}
use Rattle.std.specs.Global.{Global}
use Rattle.std.proofs.lemmas.Option.{slice_get-get_or}
use Rattle.causal_order.specs.CausalOrders.{is_listed_at}
use Rattle.causal_order.proofs.Sifting.{listed-by, sift_passed, sift_failed}
use Rattle.causal_order.proofs.listing.push_listed.Goals.{then-is_listed+in_ok-push, else-is_listed}
use Rattle.causal_order.proofs.listing.push_listed.Goals as goal

pub loop-place-preserved : goal.loop-place-preserved
loop-place-preserved c =
    let order = c.args.order.now in
    let i = c.loop-place.place-index in
    let test = is_listed_at c.args.ops.now c.args.read.now in
    let l = c.requires.within i _ (slice_get-get_or order i 0 c.loop-place-test.true) in
    let m : get_or order i 0 < length c.args.read.now = omega (arith, l, c.requires.size) in
    elim c.if-is_listed.branch [
      | then-is_listed+in_ok-push w ↦
          sift_passed test order c.args.places.now.items c.loop-place.places.items
          c.if-is_listed.places.items i
          c.loop-place-test.true
          (listed-by c.args.ops.now c.args.read.now (get_or order i 0) _ _ true l m w.if-is_listed.ensures)
          c.loop-place.invariant
          (ap (λ (v : Vec ℕ Global). v.items) w.places-is ∙ w.in_ok-push.ensures.items)
      | else-is_listed w ↦
          ap (λ (v : Vec ℕ Global). v.items) w.places-is
          ∙ sift_failed test order c.args.places.now.items c.loop-place.places.items i c.loop-place-test.true
          (listed-by c.args.ops.now c.args.read.now (get_or order i 0) _ _ false l m w.if-is_listed.ensures)
          c.loop-place.invariant
    ]

pub bounds-ops-place : goal.bounds-ops-place
bounds-ops-place c =
    c.requires.within c.loop-place.place-index _
    (slice_get-get_or c.args.order.now c.loop-place.place-index 0 c.loop-place-test.true)

pub bounds-read-place : goal.bounds-read-place
bounds-read-place c =
    let l = c.requires.within c.loop-place.place-index _
    (slice_get-get_or c.args.order.now c.loop-place.place-index 0 c.loop-place-test.true) in
    omega (arith, l, c.requires.size)
