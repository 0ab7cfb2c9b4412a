use Rattle.std.proofs.Common.{◌≡◌, take}
use Rattle.report_text.specs.Check.SummaryText.{numbers_text}
use Rattle.report_text.proofs.check.summary_text.text_of.Given as goal

abbrev pub invariant-loop-number : goal.invariant-loop-number
invariant-loop-number l = l.text.items ≡ numbers_text (take l.number-index l.numbers)
