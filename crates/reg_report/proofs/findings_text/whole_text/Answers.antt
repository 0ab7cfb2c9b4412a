-- The report that was written has the lines whose text was made.
use Rattle.std.proofs.Common.{sym, subst}
use Rattle.reg_report.specs.Meaning.{IsWholeAtomicity}
use Rattle.report_text.specs.declared.check.report.Report.{Report}
use Rattle.reg_report.proofs.FindingsText.{summary-behind}
use Rattle.reg_report.proofs.findings_text.whole_text.Goals as goal

pub returns : goal.returns
returns g c =
    let h = c.args.arena in
    let lines = c.in_ok-order.ensures.lines in
    let report : Report = record {
      regs = lines.0;
      operations = c.args.operations;
      registers = c.register_count.result;
      atomic = c.is_some.result;
      order = c.in_ok-order.order;
    } in (
      report,
      record {
        lines = lines.1.lines;
        each = lines.1.each;
        called = c.requires.operations;
        named = c.register_count.ensures.count;
        atomic =
            subst (λ atomic. IsWholeAtomicity h atomic c.in_ok-order.order)
            (sym c.is_some.ensures) c.in_ok-order.ensures.order;
      },
      summary-behind c.in_ok-order.parts.items c.in_ok-summary_beside_drop.field-0.items
          c.append.new.self.items report c.in_ok-append.ensures.items lines.2
          c.in_ok-summary_beside_drop.ensures,
      c.of.ensures,
    )
