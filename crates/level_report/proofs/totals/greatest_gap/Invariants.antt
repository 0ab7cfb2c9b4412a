use Rattle.std.proofs.Common.{◌≡◌, map, drop, max}
use Rattle.reg_zones.specs.Clusters.{greatest}
use Rattle.level_report.specs.Totals.{events_of_gap}
use Rattle.level_report.proofs.totals.greatest_gap.Given as goal

-- the lines ahead may have a greater one
abbrev pub invariant-loop-reg : goal.invariant-loop-reg
invariant-loop-reg l =
    max l.events (greatest (map events_of_gap (drop l.reg-index l.regs))) ≡ greatest (map events_of_gap
    l.regs)
