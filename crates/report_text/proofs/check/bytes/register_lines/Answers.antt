use Rattle.std.proofs.Common.{arith}
use Rattle.report_text.proofs.CheckLemmas.Joined.{one_line_more}
use Rattle.report_text.proofs.check.bytes.register_lines.Goals as goal

pub loop-reg-preserved : goal.loop-reg-preserved
loop-reg-preserved c =
    one_line_more c.args.regs.now c.loop-reg.reg-index c.reg-item.result c.loop-reg.out.items
    c.put_register_line.new.out.items (omega arith) c.reg-item.is c.loop-reg.invariant
    c.in_ok-put_register_line.ensures
