use Rattle.std.proofs.Common.{◌<◌, ◌+◌, ◌∙◌, Some, None, get_or, ap, arith, length, subst, sym}
use Rattle.std.specs.Prelude.{Vec}
use Rattle.std.specs.Global.{Global}
use Rattle.reg_levels.proofs.ClusterLemmas.Places.{at-get, nothing}
use Rattle.reg_levels.proofs.ClusterLemmas.Pushes.{get-below}
use Rattle.reg_levels.specs.Counts.Marks.{AreFound, HasMark, HoldsMark, IsPrecededFound}
use Rattle.reg_levels.specs.declared.counts.mark.Mark.{Mark}
use Rattle.reg_levels.specs.declared.counts.old_read.OldRead.{OldRead}
use Rattle.reg_levels.proofs.CountLemmas.Found.{found-push, found-skip}
use Rattle.reg_levels.proofs.CountLemmas.Old.{preceded-by}
use Rattle.reg_levels.proofs.counts.old_reads.preceded.Goals as goal
use Rattle.reg_levels.proofs.counts.old_reads.preceded.Goals.{in-Some+in_ok-push-in-Some, in-None}

pub loop-place-preserved : goal.loop-place-preserved
loop-place-preserved c =
    let ops = c.args.ops.now in
    let marks = c.args.marks.now in
    let list = c.in_ok-ranking.ranking.marks.items in
    let flat = c.in_ok-ranking.ensures.flat in
    let i = c.loop-place.place in
    let reads = c.loop-place.reads.items in
    let below : i < length ops = omega arith in
    let at = at-get ops i below in
    let Is = IsPrecededFound (HasMark marks) ops in
    let to : (m : Mark) → HasMark marks m → HoldsMark list m =
    λ m k. flat.all k.0 m (get-below marks (Some m) k.0 k.1) k.1 in
    elim c.match-preceded_at.branch [
      | in-Some+in_ok-push-in-Some w ↦
          let found = preceded-by (HoldsMark list) (HasMark marks) flat.only to ops i (get_or ops i nothing)
          (Some w.in-Some.read) (w.in-Some.ensures (get_or ops i nothing) at) in
          let items = ap (λ (v : Vec OldRead Global). v.items) w.reads-is
          ∙ w.in_ok-push-in-Some.ensures.items in
          subst (AreFound Is ops (i + 1)) (sym items)
          (found-push Is ops i reads c.loop-place.invariant (get_or ops i nothing) at w.in-Some.read
          found.2.read found)
      | in-None w ↦
          let items = ap (λ (v : Vec OldRead Global). v.items) w.reads-is in
          subst (AreFound Is ops (i + 1)) (sym items)
          (found-skip Is ops i reads c.loop-place.invariant (λ a t.
          preceded-by (HoldsMark list) (HasMark marks) flat.only to ops i a None (w.in-None.ensures a t)))
    ]
