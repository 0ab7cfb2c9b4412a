use Rattle.std.proofs.Common.{arith}
use Rattle.reg_arena.proofs.value_times.reply_time.Goals as goal

pub time-requires : goal.time-requires
time-requires c =
    let b =
    (c.requires c.in_ok-entry-in-Int.field-0 c.in_ok-entry-in-Int.was).reply c.in_ok-branch-in-Int.field-0
    c.in_ok-branch-in-Int.was in
    omega (arith, b)
