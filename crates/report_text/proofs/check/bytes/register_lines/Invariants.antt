use Rattle.std.proofs.Common.{◌≡◌, take}
use Rattle.report_text.specs.Check.Text.{registers_text}
use Rattle.report_text.proofs.check.bytes.register_lines.Given as goal

abbrev pub invariant-loop-reg : goal.invariant-loop-reg
invariant-loop-reg l = l.out.items ≡ registers_text (take l.reg-index l.regs)
