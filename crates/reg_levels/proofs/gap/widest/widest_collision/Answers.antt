use Rattle.std.proofs.Common.{◌<◌, inl, inr, arith}
use Rattle.std.proofs.lemmas.Bool.{cases_lt}
use Rattle.reg_levels.proofs.GapLemmas.Passing.{collision-apart}
use Rattle.reg_levels.proofs.gap.widest.widest_collision.Goals as goal

pub loop-low-init : goal.loop-low-init
loop-low-init c =
    let k = c.in_ok-pair.ensures in
    let order : 0 < c.args.end = elim (cases_lt 0 c.args.end) [
      | inl l ↦ l
      | inr l ↦ absurd
          (collision-apart c.args.extents.now 0 c.args.end c.in_ok-pair.pair.0 c.in_ok-pair.pair.1 k
          c.requires.end (omega (arith, l)))
    ] in
    record { order = order; collision = k; apart = c.requires.end }
