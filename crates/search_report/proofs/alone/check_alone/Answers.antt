use Rattle.std.proofs.Common.{arith, inl, refl}
use Rattle.reg_intake.proofs.Passing.{passed-on}
use Rattle.reg_intake.specs.Refusals.{of_build}
use Rattle.reg_intake.specs.declared.refusal.Refusal.TheVariants.{NoRoom}
use Rattle.search_report.specs.Answer.{IsRefused}
use Rattle.search_report.proofs.Answering.{answer-to, refused-within}
use Rattle.search_report.proofs.alone.check_alone.Goals as goal

pub returns-in_err-history-clause-err : goal.returns-in_err-history-clause-err
returns-in_err-history-clause-err c =
    let e = c.in_err-history.field-0.0 in
    passed-on (IsRefused c.args.input.now) (of_build e) c.from_residual.result c.from_residual.ensures.1
    (refused-within c.args.input.now (omega (arith, c.if-input-gt-MAX_INPUT.false)) e
    c.in_err-history.ensures.err)

pub returns-in_err-report_alone-clause-err : goal.returns-in_err-report_alone-clause-err
returns-in_err-report_alone-clause-err c =
    passed-on (IsRefused c.args.input.now) NoRoom c.from_residual-in_err-report_alone.result
    c.from_residual-in_err-report_alone.ensures.1 (inl refl)

pub returns-clause-ok : goal.returns-clause-ok
returns-clause-ok c =
    let read = c.in_ok-history.ensures.ok in
    let report = c.in_ok-report_alone.field-0 in
    answer-to c.args.input.now c.in_ok-history.history report read (c.in_ok-report_alone.ensures _ read.is)

pub returns-clause-atomic : goal.returns-clause-atomic
returns-clause-atomic c = (c.in_ok-report_alone.ensures _ c.in_ok-history.ensures.ok.is).whole
