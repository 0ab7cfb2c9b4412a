use Rattle.std.proofs.Common.{◌≡◌, ◌<◌, false, slice_get, slice_index_or, Some, length, refl, ap, ◌∙◌, rules}
use Rattle.std.proofs.lemmas.Option.{slice_get_read}
use Rattle.register_search.proofs.Checking.{marks-first, marks-more, marks-end}
use Rattle.register_search.proofs.check.marked.Goals as goal

pub loop-number-init : goal.loop-number-init
loop-number-init c =
    marks-first c.args.count c.in_ok-marks.marks.items
    (c.in_ok-marks.ensures.items_if_clones_equal (λ y e. search rules))

pub loop-number-preserved : goal.loop-number-preserved
loop-number-preserved c =
    let within : slice_index_or c.args.order.now c.loop-number.number-index 0
    < length c.loop-number.marks.items = search rules in
    let no : slice_get c.loop-number.marks.items
    (slice_index_or c.args.order.now c.loop-number.number-index 0) ≡ Some false =
    slice_get_read c.loop-number.marks.items (length c.loop-number.marks.items) _ c.index.result.now refl
    within c.index.ensures ∙ ap Some c.if-index.false in
    marks-more c.args.count c.loop-number.number-index c.args.order.now c.loop-number.marks.items _
    c.loop-number-test.true within no refl c.loop-number.invariant

pub returns : goal.returns
returns c =
    marks-end c.args.count c.loop-number.number-index c.args.order.now c.loop-number.marks.items
    c.loop-number-test.false c.loop-number.invariant
