use Rattle.std.proofs.Common.{◌<◌, ◌+◌, get_or, length, Some, None, sym, ap, ◌∙◌, subst, arith}
use Rattle.std.proofs.Common.{Option, replicate}
use Rattle.std.specs.Prelude.{Vec}
use Rattle.std.specs.Global.{Global}
use Rattle.reg_levels.specs.declared.clusters.table.ClusterEnds.{ClusterEnds}
use Rattle.reg_levels.specs.Clusters.Steps.{AreEnds}
use Rattle.reg_levels.proofs.ClusterLemmas.Places.{at-get, nothing}
use Rattle.reg_levels.proofs.ClusterLemmas.Pushes.{get-read}
use Rattle.reg_levels.proofs.ClusterLemmas.Widening.{ends-pending, ends-none, replicate-none}
use Rattle.reg_levels.proofs.ClusterLemmas.Widening.{length-replicate-none}
use Rattle.reg_levels.proofs.clusters.ends.ends.Goals as goal
use Rattle.reg_levels.proofs.clusters.ends.ends.Goals.{in-Some, in-None}

pub add-requires-clause-source : goal.add-requires-clause-source
add-requires-clause-source c = λ a t.
    let below : c.loop-place.place < length c.args.sources.now = omega (arith, c.requires.sources.places) in
    c.requires.sources.each c.loop-place.place a (Some c.in-Some.write) t
    (get-read c.args.sources.now c.loop-place.place None below ∙ ap Some c.in-Some.is)

pub loop-place-preserved : goal.loop-place-preserved
loop-place-preserved c =
    let ops = c.args.ops.now in
    let i = c.loop-place.place in
    let below : i < length c.args.sources.now = omega (arith, c.requires.sources.places) in
    let at = at-get ops i (omega (arith, c.requires.sources.places)) in
    elim c.match-sources-place.branch [
      | in-Some w ↦ subst (λ (v : Vec (Option ClusterEnds) Global). AreEnds ops (i + 1) v.items) (sym
          w.ends-is) w.add.ensures
      | in-None w ↦
          let source = c.requires.sources.each i (get_or ops i nothing) None at
          (get-read c.args.sources.now i None below ∙ ap Some w.in-None.is) in
          subst (λ (v : Vec (Option ClusterEnds) Global). AreEnds ops (i + 1) v.items) (sym w.ends-is)
          (ends-pending ops c.requires.history c.requires.by_call i (get_or ops i nothing) at
          c.loop-place.ends.items source.1 c.loop-place.invariant)
    ]

pub loop-place-init : goal.loop-place-init
loop-place-init c =
    let n = length c.args.ops.now in
    subst (AreEnds c.args.ops.now 0) (sym c.in_ok-ends.ensures)
    (ends-none c.args.ops.now (replicate n None) (length-replicate-none n) (replicate-none n))
