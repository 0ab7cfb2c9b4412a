-- The three parts are the line.
use Rattle.std.proofs.Common.{◌∙◌, [], ◌∷◌, ◌++◌, ap, sym}
use Rattle.report_text.specs.Check.SummaryText.{beginning_text, end_text, numbers_text}
use Rattle.report_text.proofs.CheckLemmas.SummaryText.{between, three-parts}
use Rattle.report_text.proofs.check.summary_text.ordered.Goals as goal

pub returns : goal.returns
returns g c =
    let report = c.args.report.now in
    let front = c.in_ok-beginning.field-0 in
    let back = c.in_ok-end.field-0 in
    between c.push.new.self.items c.append.new.self.items c.push-2.new.self.items
    c.in_ok-text_in_parts.field-0.items front back
    (beginning_text report.atomic report.operations c.args.first) (numbers_text c.args.others.now)
    (end_text report.registers)
    (c.in_ok-push.ensures.items
    ∙ ap (λ l. l ++ front ∷ []) c.new-parts.ensures.items) c.in_ok-append.ensures.items
    c.in_ok-push-2.ensures.items
    c.in_ok-beginning.ensures c.in_ok-text_in_parts.ensures c.in_ok-end.ensures
    ∙ sym (three-parts report c.args.first c.args.others.now c.requires)
