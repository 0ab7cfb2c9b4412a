use Rattle.std.proofs.Common.{◌<◌, ◌+◌, ◌∙◌, Some, None, get_or, ap, arith, length, refl, subst, sym}
use Rattle.std.specs.Prelude.{Vec}
use Rattle.std.specs.Global.{Global}
use Rattle.history_model.specs.declared.operation.Operation.{Operation}
use Rattle.reg_levels.specs.Clusters.Places.{IsAt}
use Rattle.reg_levels.proofs.ClusterLemmas.Places.{at-get, nothing}
use Rattle.std.proofs.lemmas.Option.{slice_get_read}
use Rattle.reg_levels.specs.Counts.Marks.{AreFound, IsFollowedFound}
use Rattle.reg_levels.specs.declared.counts.old_read.OldRead.{OldRead}
use Rattle.reg_levels.proofs.CountLemmas.Found.{found-push, found-skip}
use Rattle.reg_levels.proofs.CountLemmas.Old.{followed-by}
use Rattle.reg_levels.proofs.counts.old_reads.followed.Goals as goal
use Rattle.reg_levels.proofs.counts.old_reads.followed.Goals.{in-Some+in_ok-push-in-Some, in-None}

pub loop-place-preserved : goal.loop-place-preserved
loop-place-preserved c =
    let ops = c.args.ops.now in
    let marks = c.args.marks.now in
    let i = c.loop-place.place in
    let reads = c.loop-place.reads.items in
    let last = c.in_ok-last.last.items in
    let below : i < length ops = omega arith in
    let inside : i < length last = omega (arith, c.in_ok-last.ensures.places) in
    let at = at-get ops i below in
    let b = get_or ops i nothing in
    let Is = IsFollowedFound ops marks in
    let x = c.index.result.now in
    let here = slice_get_read last (length last) i x refl inside c.index.ensures in
    let of = λ (a : Operation) (t : IsAt ops i a). c.in_ok-last.ensures.each i a x t here in
    elim c.match-followed_at.branch [
      | in-Some+in_ok-push-in-Some w ↦
          let found = followed-by ops marks i b x (of b at) (Some w.in-Some.read) (w.in-Some.ensures b at) in
          let items = ap (λ (v : Vec OldRead Global). v.items) w.reads-is
          ∙ w.in_ok-push-in-Some.ensures.items in
          subst (AreFound Is ops (i + 1)) (sym items)
          (found-push Is ops i reads c.loop-place.invariant b at w.in-Some.read found.2.read found)
      | in-None w ↦
          let items = ap (λ (v : Vec OldRead Global). v.items) w.reads-is in
          subst (AreFound Is ops (i + 1)) (sym items)
          (found-skip Is ops i reads c.loop-place.invariant (λ a t.
          followed-by ops marks i a x (of a t) None (w.in-None.ensures a t)))
    ]
