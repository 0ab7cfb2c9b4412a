use Rattle.std.proofs.Common.{arith}
use Rattle.reg_report.proofs.FindingsText.{one-text-more}
use Rattle.reg_report.proofs.findings_text.lines_text.Goals as goal

pub loop-finding-preserved : goal.loop-finding-preserved
loop-finding-preserved c =
    let l = c.loop-finding in
    one-text-more c.args.arena.now c.args.findings.now l.finding-index c.finding-item.result c.in_ok-reg.reg
    l.out.items c.put_register_line.new.out.items (omega arith) c.finding-item.is l.invariant
    c.in_ok-reg.ensures c.in_ok-put_register_line.ensures
