use Rattle.std.proofs.Common.{◌<◌, ◌+◌, None, get_or, ap, arith, length, refl, subst, sym}
use Rattle.std.specs.BTreeMap.{get}
use Rattle.std.specs.Ordering.{nat_cmp}
use Rattle.history_model.specs.declared.operation.Operation.{Operation}
use Rattle.reg_levels.proofs.ClusterLemmas.Places.{at-get, at-is, nothing}
use Rattle.reg_levels.proofs.ClusterLemmas.Pushes.{get-read}
use Rattle.reg_levels.specs.Counts.Marks.{AreLastBelow, IsLastOfSession}
use Rattle.reg_levels.proofs.CountLemmas.Sessions.{last-more, last-of, last-pushed}
use Rattle.reg_levels.proofs.counts.session.last_in_session.Goals as goal

pub loop-place-preserved : goal.loop-place-preserved
loop-place-preserved c =
    let ops = c.args.ops.now in
    let marks = c.args.marks.now in
    let i = c.loop-place.place in
    let b = get_or ops i nothing in
    let below : i < length ops = omega arith in
    let inside : i < length marks = omega (arith, c.requires) in
    let old = get nat_cmp c.loop-place.last in
    let so_far = c.loop-place.invariant in
    record {
      at_each = subst (AreLastBelow ops marks (i + 1)) (sym c.in_ok-push.ensures.items)
          (last-pushed ops marks i c.loop-place.found.items c.known.result
          (λ a t. subst (IsLastOfSession ops marks i a) (sym c.known.ensures)
          (last-of ops marks i old so_far.last a b.process
          (sym (ap (λ (x : Operation). x.process) (at-is ops i a t))))) so_far.at_each);
      last = last-more ops marks i b (at-get ops i below) (get_or marks i None) (get-read marks i None
          inside) old
          (get nat_cmp c.add.new.last) b.process refl c.in_ok-add.ensures so_far.last;
    }
