use Rattle.std.proofs.Common.{◌<◌, sym, ◌∙◌, arith}
use Rattle.history_text.specs.declared.limits.TheConstants.{MAX_EVENTS}
use Rattle.reg_arena.specs.Lists.EventLists.{write_kept}
use Rattle.reg_arena.proofs.Times.{later-fits}
use Rattle.reg_arena.proofs.value_times.last_time.Goals as goal
use Rattle.reg_arena.proofs.value_times.last_time.Goals.{in-Some, in-None}

pub time-requires : goal.time-requires
time-requires c =
    let fits : c.in-Some-default.call.0 < MAX_EVENTS = elim c.match-entry.branch [
      | in-Some w ↦
          let t = c.requires w.in-Some.entry w.in-Some.is in
          later-fits (write_kept w.in-Some.entry.write) w.in-Some.entry.last_read t.write t.read
          c.in-Some-default.call (sym w.last_call-last.ensures ∙ (sym w.last-is ∙ c.in-Some-default.is-0))
      | in-None w ↦ absurd (let a = w.last-is in let b = c.in-Some-default.is-0 in cc (a, b))
    ] in
    omega (arith, fits)
