use Rattle.std.proofs.Common.{◌∙◌, ap, arith, length, subst, sym}
use Rattle.history_model.specs.Operations.{operations}
use Rattle.report_text.specs.declared.level.report.LevelsReport.{LevelsReport}
use Rattle.level_report.specs.Answer.{IsOutcomeOf}
use Rattle.level_report.specs.Causal.{IsCausalSaid}
use Rattle.level_report.specs.Meaning.{IsReport}
use Rattle.report_text.specs.declared.level.report.LevelName.TheVariants.{Atomic}
use Rattle.level_report.specs.Totals.{all_say, AreTotals, outcome_said}
use Rattle.level_report.specs.declared.settings.Asked.{Asked}
use Rattle.level_report.proofs.Telling.{atomic-causes, outcome-is}
use Rattle.level_report.proofs.whole.answer_of.Goals as goal

pub totals-totals-requires : goal.totals-totals-requires
totals-totals-requires c =
    let same = ap length c.deref-2.ensures.value in
    omega (arith, same, c.requires.few)

pub causal_lines-requires : goal.causal_lines-requires
causal_lines-requires c = λ is.
    atomic-causes c.args.arena.now c.event_count-events.ensures.recorded c.args.settings.asked
    c.args.registers.items c.requires.lines
    (ap (all_say Atomic) (sym c.deref.ensures.value) ∙ sym c.all_hold-atomic.ensures ∙ is)

pub returns : goal.returns
returns c =
    let h = c.args.arena.now in
    let asked = c.args.settings.asked in
    let required = c.args.settings.required in
    let report : LevelsReport = record { registers = c.args.registers; totals = c.totals-totals.result } in
    let is : IsReport h asked report = record {
      count = c.requires.lines.count;
      each = c.requires.lines.each;
      totals =
          subst (λ regs. AreTotals regs c.totals-totals.result) c.deref-2.ensures.value
          c.totals-totals.ensures.totals;
      causal =
          subst (IsCausalSaid (operations h) asked.orders) (sym c.totals-totals.ensures.causal)
          (subst (λ (a : Asked). IsCausalSaid (operations h) a.orders c.in_ok-causal.causal) c.asked.ensures
          c.in_ok-causal.ensures);
    } in (
      report,
      is,
      c.in_ok-bytes.ensures,
      subst (IsOutcomeOf required h) (sym (c.outcome_for.ensures
          ∙ ap (λ r. outcome_said r report.totals) c.required.ensures))
          (outcome-is h asked report required c.event_count-events.ensures.recorded is),
    )
