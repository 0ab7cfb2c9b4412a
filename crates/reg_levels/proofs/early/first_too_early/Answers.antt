use Rattle.std.proofs.Common.{arith}
use Rattle.reg_levels.proofs.ClusterLemmas.Places.{In-at, at-below}
use Rattle.reg_levels.proofs.early.first_too_early.Goals as goal

pub returns-clause-none : goal.returns-clause-none
returns-clause-none c = record {
  written = c.requires.table.written;
  in_time =
      λ r w early. let p = In-at c.args.ops.now r early.within in
      c.loop-place.invariant p.0 r w
      (omega (arith, at-below c.args.ops.now p.0 r p.1, c.loop-place-test.false)) p.1 early;
}
