use Rattle.std.proofs.Common.{[], ◌∷◌, ◌++◌, ◌∙◌, List, ap}
use Rattle.report_text.specs.declared.check.report.RegReport.{RegReport}
use Rattle.reg_report.proofs.FoundLines.{no-line, one-line}
use Rattle.reg_report.proofs.first.first_lines.Goals as goal

pub returns-in_ok-push-in-Some : goal.returns-in_ok-push-in-Some
returns-in_ok-push-in-Some c =
    let reg = c.in_ok-whole_line-in-Some.field-0 in
    one-line c.args.arena.now c.arena_laws.ensures c.args.found c.new.result c.requires.found
    c.in-Some.register reg c.in-Some.is c.in_ok-whole_line-in-Some.ensures
    (c.new.ensures
    ∙ (c.in_ok-push-in-Some.ensures.items
    ∙ ap (λ (xs : List RegReport). xs ++ reg ∷ []) c.new-regs.ensures.items))

pub returns-in-None : goal.returns-in-None
returns-in-None c =
    no-line c.args.arena.now c.arena_laws.ensures c.args.found c.new-in-None.result c.requires.found
    c.in-None.is (c.new-in-None.ensures ∙ c.new-regs.ensures.items)
