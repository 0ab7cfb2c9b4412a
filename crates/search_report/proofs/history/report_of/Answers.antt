use Rattle.std.proofs.Common.{◌∙◌, ap, subst, sym}
use Rattle.search_report.specs.Meaning.{IsWholeOutcome, outcome_of}
use Rattle.search_report.proofs.Decided.{outcome-is, count-is, line-is}
use Rattle.search_report.proofs.history.report_of.Goals as goal

pub returns : goal.returns
returns c = λ events is.
    let h = c.args.history.now in
    let reports = c.in_ok-registers.registers.items in
    let lines = c.in_ok-registers.ensures in
    let told = c.outcome-atomic.ensures ∙ ap outcome_of c.deref.ensures.value in
    record {
      count = count-is events h is reports lines;
      each = line-is events h is reports lines;
      called = is.operations;
      summary = told;
      whole = subst (IsWholeOutcome events) (sym told) (outcome-is events h is reports lines);
    }
