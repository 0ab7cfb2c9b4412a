use Rattle.std.proofs.Common.{arith}
use Rattle.reg_report.proofs.arena_laws.arena_laws.Goals as goal

pub returns : goal.returns
returns c =
    let h = c.args.arena.now in
    let y = c.event_count-events.ensures.recorded in
    record {
      events = omega (arith, c.event_count-events.ensures.count, c.event_count-events.ensures.bound);
      registers =
          omega (arith, c.register_count-registers.ensures.count, c.register_count-registers.ensures.bound);
      history = c.accepted_is_history.ensures h y;
      numbered = c.registers_are_numbered.ensures h y;
      oper = c.names_are_unique.ensures.named h y;
      named = c.names_are_unique.ensures.one h y;
      call = c.operations_have_events.ensures.call h y;
    }
