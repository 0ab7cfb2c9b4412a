-- The parts, by whatever thread each was made, are the text of all lines.
use Rattle.std.proofs.Common.{ℕ, List, Vec, Global, get_or}
use Rattle.std.proofs.lemmas.Option.{slice_get-get_or}
use Rattle.std.proofs.lemmas.Result.{IfOk-weaker}
use Rattle.parallel.proofs.Callers.{all-given, part-at}
use Rattle.reg_report.specs.ReportText.{IsTextOf}
use Rattle.reg_report.specs.declared.findings.Finding.{Finding}
use Rattle.reg_report.proofs.FindingsText.{texts-made}
use Rattle.reg_report.proofs.findings_text.lines_in_parts.Goals as goal

pub map_parts-requires-after_bounds : goal.map_parts-requires-after_bounds
map_parts-requires-after_bounds g c κs within part inside k d low =
    let finding = get_or part.now k d in
    let there = part-at c.args.findings.now part.now inside k finding (slice_get-get_or part.now k d low) in
    (c.requires.each there.0 finding there.1).1

pub returns : goal.returns
returns g c =
    let h = c.args.arena.now in
    IfOk-weaker c.map_parts.result _ _
    (λ texts made. texts-made h c.args.findings.now made.0 texts.items c.requires made.1
    (all-given _ _ (λ (part : List Finding) (text : Vec ℕ Global). IsTextOf h part text.items)
    (λ part text is. is) made.0 texts.items made.2))
    c.map_parts.ensures
