use Rattle.std.proofs.Common.{◌<◌, get_or, length, arith}
use Rattle.reg_levels.proofs.ClusterLemmas.Places.{at-get, nothing}
use Rattle.reg_levels.proofs.ClusterLemmas.Tables.{clean-from, first-early}
use Rattle.reg_levels.proofs.clusters.early.first_early.Goals as goal

pub returns-in-Some : goal.returns-in-Some
returns-in-Some c =
    let ops = c.args.ops.now in
    let i = c.loop-place.place in
    let r = get_or ops i nothing in
    let below : i < length ops = omega arith in
    let at = at-get ops i below in
    let e = c.in-Some.ensures r at in (
      r,
      e.0,
      at,
      e.1,
      first-early ops c.requires.by_call c.requires.table.written i r e.0
          c.loop-place.invariant at e.2,
    )

pub returns : goal.returns
returns c =
    clean-from c.args.ops.now c.requires.table.written c.loop-place.place (omega arith)
    c.loop-place.invariant
