use Rattle.std.proofs.Common.{◌≡◌, ◌+◌, ◌≤◌, ◌*◌, ◌^◌, drop}
use Rattle.level_report.specs.Totals.{count_of, total}
use Rattle.level_report.proofs.totals.total.Given as goal

-- what the lines ahead add is missing, and each line adds less than 2 ^ 32
abbrev pub invariant-loop-reg : goal.invariant-loop-reg
invariant-loop-reg l =
    (l.sum + total (count_of l.fn.count) (drop l.reg-index l.regs) ≡ total (count_of l.fn.count) l.regs)
    × (l.sum ≤ l.reg-index * 2 ^ 32)
