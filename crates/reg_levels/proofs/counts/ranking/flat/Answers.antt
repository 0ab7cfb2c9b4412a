use Rattle.std.proofs.Common.{◌<◌, ◌+◌, ◌∙◌, Some, None, ap, arith, length, subst, sym}
use Rattle.std.specs.Prelude.{Vec}
use Rattle.std.specs.Global.{Global}
use Rattle.reg_levels.proofs.ClusterLemmas.Pushes.{get-read}
use Rattle.reg_levels.specs.Counts.Marks.{AreFlat}
use Rattle.reg_levels.specs.declared.counts.mark.Mark.{Mark}
use Rattle.reg_levels.proofs.CountLemmas.Ranked.{flat-none, flat-some}
use Rattle.reg_levels.proofs.counts.ranking.flat.Goals as goal
use Rattle.reg_levels.proofs.counts.ranking.flat.Goals.{in-Some+in_ok-push-in-Some, in-None}

pub loop-place-preserved : goal.loop-place-preserved
loop-place-preserved c =
    let marks = c.args.marks.now in
    let i = c.loop-place.place in
    let list = c.loop-place.list.items in
    let below : i < length marks = omega arith in
    elim c.match-marks-place.branch [
      | in-Some+in_ok-push-in-Some w ↦
          let at = get-read marks i None below ∙ ap Some w.in-Some.is in
          let items = ap (λ (v : Vec Mark Global). v.items) w.list-is ∙ w.in_ok-push-in-Some.ensures.items in
          subst (AreFlat marks (i + 1)) (sym items)
          (flat-some marks i list c.loop-place.invariant w.in-Some.mark at)
      | in-None w ↦
          let at = get-read marks i None below ∙ ap Some w.in-None.is in
          let items = ap (λ (v : Vec Mark Global). v.items) w.list-is in
          subst (AreFlat marks (i + 1)) (sym items) (flat-none marks i list c.loop-place.invariant at)
    ]
