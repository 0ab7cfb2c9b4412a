use Rattle.std.proofs.Common.{◌≡◌, slice_get, slice_index_or, Some, length, refl, rules}
use Rattle.std.proofs.lemmas.Option.{slice_get_read}
use Rattle.register_search.proofs.Checking.{meets-more, meets-end}
use Rattle.register_search.proofs.check.meets.Goals as goal

pub loop-number-preserved : goal.loop-number-preserved
loop-number-preserved c =
    let h = c.in-Some.ensures.lookup in
    let there : slice_get c.args.ops.now (slice_index_or c.args.order.now c.loop-number.number-index 0)
    ≡ Some c.in-Some.op.now =
    slice_get_read c.args.ops.now (length c.args.ops.now) _ c.in-Some.op.now refl (search rules) h.1 in
    λ m. c.loop-number.invariant
    (meets-more c.args.ops.now c.args.order.now c.loop-number.number-index c.in-Some.op.now
    c.loop-number.value c.left-value.result c.loop-number-test.true there
    (search rules) c.left-value.ensures m)

pub returns : goal.returns
returns c =
    λ _. c.loop-number.invariant
    (meets-end c.args.ops.now c.args.order.now c.loop-number.number-index c.loop-number.value
    c.loop-number-test.false)
