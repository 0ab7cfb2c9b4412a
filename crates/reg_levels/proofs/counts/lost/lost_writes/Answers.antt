use Rattle.std.proofs.Common.{◌<◌, ◌+◌, ◌∙◌, ℕ, List, get_or, ap, arith, length, subst, sym}
use Rattle.std.specs.Prelude.{Vec}
use Rattle.std.specs.Global.{Global}
use Rattle.std.proofs.lemmas.Bool.{false≢true}
use Rattle.reg_levels.proofs.ClusterLemmas.Places.{at-get, nothing}
use Rattle.reg_levels.specs.Counts.Listing.{IsListByCall}
use Rattle.reg_levels.specs.Counts.Marks.{AreFlat}
use Rattle.reg_levels.specs.Counts.Staleness.{IsLost}
use Rattle.reg_levels.proofs.CountLemmas.Losing.{ages-from}
use Rattle.reg_levels.proofs.CountLemmas.Found.{places-push, places-skip}
use Rattle.reg_levels.proofs.counts.lost.lost_writes.Goals as goal
use Rattle.reg_levels.proofs.counts.lost.lost_writes.Goals.{then-is_lost+in_ok-push, else-is_lost}

pub is_lost-requires-clause-ages : goal.is_lost-requires-clause-ages
is_lost-requires-clause-ages c =
    let list = c.in_ok-ranking.ranking.marks.items in
    ages-from c.args.ops.now c.in_ok-marks.marks.items list c.in_ok-marks.ensures
    (subst (λ xs. AreFlat xs (length xs) list) c.deref.ensures.value c.in_ok-ranking.ensures.flat)

pub loop-place-preserved : goal.loop-place-preserved
loop-place-preserved c =
    let ops = c.args.ops.now in
    let i = c.loop-place.place in
    let list = c.loop-place.writes.items in
    let a = get_or ops i nothing in
    let below : i < length ops = omega arith in
    let at = at-get ops i below in
    let Listed = λ (xs : List ℕ). IsListByCall (λ p. p) (λ _ w. IsLost ops w) (IsLost ops) ops (i + 1) xs in
    elim c.if-is_lost.branch [
      | then-is_lost+in_ok-push w ↦
          let items = ap (λ (v : Vec ℕ Global). v.items) w.writes-is ∙ w.in_ok-push.ensures.items in
          subst Listed (sym items)
          (places-push (IsLost ops) ops i list c.loop-place.invariant a at
          ((c.is_lost.ensures a at).0 w.if-is_lost.true))
      | else-is_lost w ↦
          let items = ap (λ (v : Vec ℕ Global). v.items) w.writes-is in
          subst Listed (sym items)
          (places-skip (IsLost ops) ops i list c.loop-place.invariant
          (λ b t l. false≢true (sym w.if-is_lost.false ∙ (c.is_lost.ensures b t).1 l)))
    ]
