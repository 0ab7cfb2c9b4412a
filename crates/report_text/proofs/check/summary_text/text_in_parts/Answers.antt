-- The parts, by whatever thread each was written, are the text of all numbers.
use Rattle.std.proofs.Common.{ℕ, Vec, Global, refl}
use Rattle.std.proofs.lemmas.Result.{IfOk-weaker}
use Rattle.parallel.proofs.Callers.{joined-given}
use Rattle.report_text.specs.Check.SummaryText.{numbers_text}
use Rattle.report_text.proofs.CheckLemmas.SummaryText.{numbers-append}
use Rattle.report_text.proofs.check.summary_text.text_in_parts.Goals as goal

pub returns : goal.returns
returns g c =
    IfOk-weaker c.map_parts.result _ _
    (λ parts made.
    joined-given _ _ (λ (text : Vec ℕ Global). text.items) numbers_text refl numbers-append (λ part text is.
    is) c.args.numbers.now parts.items made)
    c.map_parts.ensures
