use Rattle.std.proofs.Common.{◌≡◌, ◌++◌, slice_get, slice_index_or, Some, length, refl, sym, ap, rules}
use Rattle.std.proofs.lemmas.Option.{slice_get_read}
use Rattle.history_model.specs.Placed.{placed}
use Rattle.register_search.specs.Timeline.{operations_at}
use Rattle.register_search.proofs.Checking.{points, points-more, points-end, unreplied-more, unreplied-end}
use Rattle.register_search.proofs.check.points_of.Goals as goal

pub loop-number-init : goal.loop-number-init
loop-number-init c = record {
  is =
      ap (λ xs. xs ++ points (placed (operations_at c.args.ops.now c.args.order.now)))
      (sym c.new-points.ensures.items);
  unreplied = λ u. u;
}

pub loop-number-preserved : goal.loop-number-preserved
loop-number-preserved c =
    let h = c.in-Some.ensures.lookup in
    let there : slice_get c.args.ops.now (slice_index_or c.args.order.now c.loop-number.number-index 0)
    ≡ Some c.in-Some.op.now =
    slice_get_read c.args.ops.now (length c.args.ops.now) _ c.in-Some.op.now refl (search rules) h.1 in
    record {
      is =
          points-more c.args.ops.now c.args.order.now c.loop-number.points.items c.push.new.self.items _
          c.loop-number.number-index c.loop-number.last c.max-last.result c.in-Some.op.now
          c.loop-number-test.true there c.max-last.ensures c.in_ok-push.ensures.items
          c.loop-number.invariant.is;
      unreplied =
          λ u. c.loop-number.invariant.unreplied
          (unreplied-more c.args.ops.now c.args.order.now c.loop-number.number-index c.loop-number.last
          c.max-last.result c.in-Some.op.now c.loop-number-test.true there c.max-last.ensures
          (c.is_over.ensures c.if-is_over.false) u);
    }

pub returns : goal.returns
returns c = record {
  is =
      points-end c.args.ops.now c.args.order.now c.loop-number.points.items _ c.loop-number.number-index
      c.loop-number.last c.loop-number-test.false c.loop-number.invariant.is;
  unreplied =
      c.loop-number.invariant.unreplied
      (unreplied-end c.args.ops.now c.args.order.now c.loop-number.number-index c.loop-number.last
      c.loop-number-test.false);
}
