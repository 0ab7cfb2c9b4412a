use Rattle.std.proofs.Common.{arith}
use Rattle.report_text.proofs.LevelLemmas.Joined.{one_line_more}
use Rattle.report_text.proofs.level.written.register_lines.Goals as goal

pub loop-reg-preserved : goal.loop-reg-preserved
loop-reg-preserved c =
    one_line_more c.args.regs.now c.loop-reg.reg-index c.reg-item.result c.loop-reg.out.items
    c.put_line.new.out.items c.as_slice.result.now c.in_ok-register_line.field-0.items
    (omega arith) c.reg-item.is c.loop-reg.invariant c.as_slice.ensures.value
    c.in_ok-register_line.ensures c.in_ok-put_line.ensures
