use Rattle.std.proofs.Common.{◌-◌, ◌<◌}
use Rattle.reg_levels.specs.Gap.Extents.{NoneCollide, IsCollision}
use Rattle.reg_levels.proofs.gap.widest.widest_collision.Given as goal

abbrev pub invariant-loop-low : goal.invariant-loop-low
invariant-loop-low l = record {
  order : l.low < l.high;
  collision : IsCollision l.low l.extents l.pair.0 l.pair.1;
  apart : NoneCollide l.high l.extents;
}

abbrev pub decreases-loop-low : goal.decreases-loop-low
decreases-loop-low l = l.high - l.low
