use Rattle.std.proofs.Common.{◌≡◌, ◌<◌, ◌+◌, length, Option, Some, None, sym, ap, ◌∙◌, subst, arith}
use Rattle.std.proofs.Common.{ℕ, [], ◌∷◌, ◌++◌}
use Rattle.std.specs.Prelude.{Vec}
use Rattle.std.specs.Global.{Global}
use Rattle.reg_levels.specs.declared.clusters.table.ClusterEnds.{ClusterEnds}
use Rattle.reg_levels.specs.Clusters.Steps.{IsNumberedBelow}
use Rattle.reg_levels.proofs.ClusterLemmas.Pushes.{get-read}
use Rattle.reg_levels.proofs.ClusterLemmas.Numbered.{numbering-none, numbering-some}
use Rattle.reg_levels.proofs.clusters.numbering.numbered.Goals as goal
use Rattle.reg_levels.proofs.clusters.numbering.numbered.Goals.{in-None+in_ok-push-in-None}

pub loop-place-preserved : goal.loop-place-preserved
loop-place-preserved c =
    let ends = c.args.ends.now in
    let i = c.loop-place.place in
    let below : i < length ends = omega arith in
    elim c.match-ends-place.branch [
      | goal.in-Some+in_ok-push-in-Some+in_ok-push-in-Some-2 w ↦
          let at = get-read ends i None below ∙ ap Some w.in-Some.is in
          let long : w.len.result ≡ length c.loop-place.clusters.items = omega (arith, w.len.ensures) in
          let clusters = ap (λ (v : Vec ClusterEnds Global). v.items) w.clusters-is
          ∙ w.in_ok-push-in-Some-2.ensures.items in
          let numbers = ap (λ (v : Vec (Option ℕ) Global). v.items) w.numbers-is
          ∙ (w.in_ok-push-in-Some.ensures.items
          ∙ ap (λ n. c.loop-place.numbers.items ++ Some n ∷ []) long) in
          subst (λ xs. IsNumberedBelow ends (i + 1) xs c.match-ends-place.numbers.items) (sym clusters)
          (subst (IsNumberedBelow ends (i + 1) (c.loop-place.clusters.items ++ w.in-Some.found ∷ [])) (sym
          numbers)
          (numbering-some ends i c.loop-place.clusters.items c.loop-place.numbers.items
          c.loop-place.invariant
          c.requires.places w.in-Some.found at))
      | in-None+in_ok-push-in-None w ↦
          let at = get-read ends i None below ∙ ap Some w.in-None.is in
          let clusters = ap (λ (v : Vec ClusterEnds Global). v.items) w.clusters-is in
          let numbers = ap (λ (v : Vec (Option ℕ) Global). v.items) w.numbers-is
          ∙ w.in_ok-push-in-None.ensures.items in
          subst (λ xs. IsNumberedBelow ends (i + 1) xs c.match-ends-place.numbers.items) (sym clusters)
          (subst (IsNumberedBelow ends (i + 1) c.loop-place.clusters.items) (sym numbers)
          (numbering-none ends i c.loop-place.clusters.items c.loop-place.numbers.items
          c.loop-place.invariant at))
    ]
