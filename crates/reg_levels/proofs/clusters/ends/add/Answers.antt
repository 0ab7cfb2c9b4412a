use Rattle.std.proofs.Common.{◌<◌, get_or, length, Some, sym, subst, arith, refl}
use Rattle.std.proofs.Math.ListN.{length-set}
use Rattle.std.proofs.lemmas.Option.{slice_get_read}
use Rattle.reg_levels.specs.Clusters.Steps.{IsAlone, IsEndsBelow, IsEndsFound}
use Rattle.reg_levels.proofs.ClusterLemmas.Places.{at-below, at-get, at-is, nothing}
use Rattle.reg_levels.proofs.ClusterLemmas.Widening.{ends-pending, ends-widened, found-alone, found-widened}
use Rattle.reg_levels.proofs.clusters.ends.add.Goals as goal
use Rattle.reg_levels.proofs.clusters.ends.add.Goals.{in-Some, in-None}

pub returns-after-index : goal.returns-after-index
returns-after-index c =
    let ops = c.args.ops.now in
    let y = c.requires.history in
    let i = c.args.place in
    let q = c.args.write in
    let ends = c.args.ends.now.items in
    let b = get_or ops i nothing in
    let at = at-get ops i c.requires.place in
    let s = c.requires.source b at in
    let inside : q < length ends = omega (arith, c.requires.ends.places, at-below ops q s.0 s.1) in
    let here = slice_get_read ends (length ends) q c.index.result.now refl inside c.index.ensures in
    let found = c.requires.ends.each q s.0 c.index.result.now s.1 here in
    let known : IsEndsBelow ops i q s.0 c.match-index.known =
    elim c.match-index.branch [
      | in-Some w ↦ subst (IsEndsBelow ops i q s.0) (sym w.known-is)
          (subst (IsEndsFound ops i q s.0) w.in-Some.is found)
      | in-None w ↦ subst (IsEndsBelow ops i q s.0) (sym w.known-is)
          (found-alone ops i b at y q s.0 w.alone-known.result s.1 s.2 c.if-op.true s.3
          (subst (λ x. IsAlone q x w.alone-known.result) (at-is ops q s.0 s.1) w.alone-known.ensures)
          (subst (IsEndsFound ops i q s.0) w.in-None.is found))
    ] in
    ends-widened ops y c.requires.by_call i b at ends q s.0 c.with.result s.1 s.2 s.3
    (found-widened ops i b at q s.0 c.match-index.known c.with.result c.if-op.true s.3 c.with.ensures known)
    c.requires.ends (length-set ends q (Some c.with.result))

pub returns-else-op : goal.returns-else-op
returns-else-op c =
    let ops = c.args.ops.now in
    let i = c.args.place in
    ends-pending ops c.requires.history c.requires.by_call i (get_or ops i nothing)
    (at-get ops i c.requires.place) c.args.ends.now.items c.if-op.false c.requires.ends
