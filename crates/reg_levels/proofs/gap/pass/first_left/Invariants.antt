use Rattle.std.proofs.Common.{◌-◌, ◌≤◌}
use Rattle.reg_levels.specs.Gap.Extents.{ArePassed}
use Rattle.reg_levels.proofs.gap.pass.first_left.Given as goal

abbrev pub invariant-loop-first : goal.invariant-loop-first
invariant-loop-first l = record {
  order : l.first ≤ l.place;
  passed : ArePassed l.age l.extents l.first l.place;
}

abbrev pub decreases-loop-first : goal.decreases-loop-first
decreases-loop-first l = l.place - l.first
