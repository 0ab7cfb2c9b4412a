use Rattle.std.proofs.Common.{◌∙◌, ℕ, List, subst, sym}
use Rattle.reg_intake.specs.Arena.{IsArenaOf}
use Rattle.reg_report.proofs.Answering.{answer-of-arena}
use Rattle.reg_report.proofs.report_values.check.Goals as goal

pub returns-clause-ok : goal.returns-clause-ok
returns-clause-ok g c =
    let arena = c.in_ok-arena.ensures.ok in
    answer-of-arena c.args.settings.first c.args.input.now c.in_ok-arena.arena c.in_ok-report_by.field-0
    (subst (λ (bytes : List ℕ). IsArenaOf bytes c.in_ok-arena.arena) (sym arena.1 ∙ c.new.ensures) arena.2)
    c.in_ok-report_by.ensures
