use Rattle.std.proofs.Common.{◌≡◌, ◌<◌, ◌+◌, ◌-◌, ◌∙◌, ℕ, ap, arith, get_or, length, refl, subst, sym}
use Rattle.std.proofs.lemmas.Option.{slice_get_read}
use Rattle.reg_levels.proofs.ClusterLemmas.Pushes.{get-read}
use Rattle.reg_levels.specs.Counts.Marks.{AreLeast, HasLeastRankFrom, IsLower}
use Rattle.reg_levels.specs.declared.counts.mark.Mark.{Mark}
use Rattle.reg_levels.proofs.CountLemmas.Ranked.{least-last, least-next, least-push}
use Rattle.reg_levels.proofs.counts.ranking.least.Goals as goal
use Rattle.reg_levels.proofs.counts.ranking.least.Goals.{then-done-eq0, else-done-eq0}

abbrev blank : Mark
blank = record { key = 0; rank = 0; place = 0; newer = 0 }

pub loop-done-preserved : goal.loop-done-preserved
loop-done-preserved c =
    let marks = c.args.marks.now in
    let i = c.loop-done.done in
    let least = c.loop-done.least.items in
    let best = c.if-done-eq0.best in
    let is : (k : ℕ) → k + i + 1 ≡ length marks → HasLeastRankFrom marks k best =
    λ k e. elim c.if-done-eq0.branch [
      | then-done-eq0 w ↦
          let at : length marks - 1 - i ≡ k = omega (arith, e) in
          let there = get-read marks k blank (omega arith) in
          let first = w.if-done-eq0.true in
          let is = w.best-is ∙ ap (λ n. get_or marks n blank) at in
          subst (HasLeastRankFrom marks k) (sym is) (least-last marks k (get_or marks k blank) (omega
          arith) there)
      | else-done-eq0 w ↦
          let at : length marks - 1 - i ≡ k = omega (arith, e) in
          let there = get-read marks k blank (omega arith) in
          let more = w.if-done-eq0.false in
          let places = c.loop-done.invariant.places in
          let j = i - 1 in
          let inside : j < length least = omega arith in
          let last = slice_get_read least (length least) j w.index.result.now refl inside w.index.ensures in
          let known = c.loop-done.invariant.each j w.index.result.now last (k + 1) (omega arith) in
          let lower = subst (λ n. IsLower w.index.result.now (get_or marks n blank) w.lower-best.result) at
          w.lower-best.ensures in
          subst (HasLeastRankFrom marks k) (sym w.best-is)
          (least-next marks k (get_or marks k blank) w.index.result.now w.lower-best.result there known
          lower)
    ] in
    subst (AreLeast marks (i + 1)) (sym c.in_ok-push.ensures.items)
    (least-push marks i least best c.loop-done.invariant is)
