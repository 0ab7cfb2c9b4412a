use Rattle.std.proofs.Common.{◌∙◌, length, refl, rules, subst, sym}
use Rattle.std.proofs.lemmas.Option.{slice_get_read}
use Rattle.search_report.specs.Registers.{IsFinding}
use Rattle.search_report.proofs.Findings.{no-items}
use Rattle.search_report.proofs.OneMore.{all-found, is-left, next-finding}
use Rattle.search_report.proofs.rounds.found_again.Goals as goal

pub loop-finding-preserved : goal.loop-finding-preserved
loop-finding-preserved c =
    let lines = c.args.lines.now in
    let registers = c.args.registers.now in
    let findings = c.loop-finding.findings.items in
    let inv = c.loop-finding.invariant in
    let ops = c.index-registers-len.result in
    let better = c.in_ok-known_or_found.field-0 in
    let within =
    is-left lines (length findings) registers _ _ c.in-Some.finding inv.3 c.in-Some.ensures.steps.0 in
    let next =
    next-finding lines registers findings c.push.new.self.items _ _ c.in-Some.finding better ops inv.2 inv.3
    c.in-Some.ensures.steps.0
    (slice_get_read registers (length registers) (length findings) ops refl within
    (search rules))
    (subst (λ xs. IsFinding lines xs better) c.deref.ensures.value c.in_ok-known_or_found.ensures)
    c.in_ok-push.ensures.items in
    (tt, tt, next.0, next.1)

pub returns : goal.returns
returns c =
    let inv = c.loop-finding.invariant in
    let rest = c.loop-finding.finding-iterator.rest in
    all-found c.args.lines.now c.args.registers.now c.loop-finding.findings.items rest.items inv.2 inv.3
    (no-items rest.items (sym rest.ok.0 ∙ c.in-None.ensures.steps.0))
