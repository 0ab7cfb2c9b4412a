use Rattle.std.proofs.Common.{◌≡◌, ℕ, length, subst, arith}
use Rattle.level_report.specs.Registers.{AreFirstLines}
use Rattle.level_report.proofs.Sharing.{one-line-more}
use Rattle.level_report.proofs.registers.register_lines_alone.Goals as goal

pub loop-number-preserved : goal.loop-number-preserved
loop-number-preserved c =
    let l = c.loop-number in
    rw c.in_ok-push.ensures.items
    (one-line-more c.args.arena.now c.args.asked l.number l.lines.items c.in_ok-register_line.field-0
    l.invariant c.in_ok-register_line.ensures)

pub returns-clause-lines : goal.returns-clause-lines
returns-clause-lines c =
    let l = c.loop-number in
    let whole : l.number ≡ length c.args.arena.now.names =
    omega (arith, l.auto.number-end, c.loop-number-test.false, c.register_count-count.ensures.count) in
    subst (λ (n : ℕ). AreFirstLines c.args.arena.now c.args.asked n l.lines.items) whole l.invariant

pub returns-clause-few : goal.returns-clause-few
returns-clause-few c =
    let l = c.loop-number in
    omega (
      arith,
      l.invariant.count,
      l.auto.number-end,
      c.loop-number-test.false,
      c.register_count-count.ensures.bound,
    )
