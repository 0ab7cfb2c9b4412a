use Rattle.std.proofs.Common.{◌≤◌}
use Rattle.reg_levels.specs.Gap.Extents.{NoneCollideBelow, ArePassed}
use Rattle.reg_levels.proofs.gap.pass.collision.Given as goal

abbrev pub invariant-loop-place : goal.invariant-loop-place
invariant-loop-place l = record {
  order : l.first ≤ l.place;
  passed : ArePassed l.age l.extents l.first l.place;
  apart : NoneCollideBelow l.age l.extents l.place;
}
