use Rattle.std.proofs.Common.{◌≡◌, ◌+◌, length, None, sym, ap, subst, ◌∙◌, arith, rules}
use Rattle.std.proofs.lemmas.List.{length-replicate}
use Rattle.std.proofs.lemmas.Option.{slice_get-get_or}
use Rattle.causal_order.specs.SessionClocks.Steps.{AreLatest, ArePrevious}
use Rattle.causal_order.proofs.SessionClockLemmas.Latest.{latest-begin, previous-begin, previous-more}
use Rattle.causal_order.proofs.session_clocks.previous.previous_calls.Goals as goal

pub loop-place-init : goal.loop-place-init
loop-place-init c =
    let made = c.in_ok-latest.ensures.items_if_clones_equal (λ y e. search rules) in
    record {
      size = ap length made ∙ length-replicate c.args.count None;
      latest = latest-begin c.args.numbers.now c.in_ok-latest.latest.items c.args.count made;
      previous = previous-begin c.args.numbers.now c.in_ok-previous.previous.items
          c.in_ok-previous.ensures.items;
    }

pub loop-place-preserved : goal.loop-place-preserved
loop-place-preserved c =
    let numbers = c.args.numbers.now in
    let i = c.loop-place.place in
    let at = slice_get-get_or numbers i None c.loop-place-test.true in
    let is =
    c.latest_of.ensures numbers i (subst (AreLatest numbers i) (sym c.deref.ensures.value)
    c.loop-place.invariant.latest) in
    record {
      size = c.note.ensures.size ∙ c.loop-place.invariant.size;
      latest = c.note.ensures.latest numbers at c.loop-place.invariant.latest;
      previous =
          subst (ArePrevious numbers (i + 1)) (sym c.in_ok-push.ensures.items)
          (previous-more numbers i _ at c.loop-place.previous.items c.latest_of.result
          c.loop-place.invariant.previous is);
    }

pub returns : goal.returns
returns c =
    let all : c.loop-place.place ≡ length c.args.numbers.now =
    omega (arith, c.loop-place-test.false, c.loop-place.auto.place-end) in
    subst (λ i. ArePrevious c.args.numbers.now i c.loop-place.previous.items) all
    c.loop-place.invariant.previous
