use Rattle.std.proofs.Common.{◌<◌, refl, arith}
use Rattle.history_model.specs.Operations.{value_of}
use Rattle.reg_zones.specs.Clusters.{first_reply}
use Rattle.reg_levels.proofs.CountLemmas.Marking.{ends-first, ends-reply}
use Rattle.reg_levels.proofs.counts.old_reads.followed_at.Goals as goal

pub returns-then-ends-mark : goal.returns-then-ends-mark
returns-then-ends-mark c = λ a t.
    let ops = c.args.ops.now in
    let ends = c.in_ok-ends.ends in
    let h = c.in_ok-ends.ensures a t in
    let older : first_reply ops (value_of a) < c.in_ok-mark.mark.key =
    omega (arith, ends-reply ops a ends h, c.if-ends-mark.true) in (
      c.in_ok-mark.mark,
      c.in_ok-mark.was,
      h.0,
      older,
      record { read = refl; earlier = refl; newer = refl; seen = ends-first ops a ends h },
    )
