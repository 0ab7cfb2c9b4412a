use Rattle.std.proofs.Common.{◌≡◌, ◌∙◌, ℕ, List, Some, length, refl, slice_get, subst, sym, rules}
use Rattle.std.proofs.lemmas.Option.{slice_get_read}
use Rattle.search_report.specs.Registers.{IsFinding, IsLine}
use Rattle.search_report.proofs.Findings.{all-lines, has-name, has-ops, next-line, no-items}
use Rattle.search_report.proofs.registers.lines_of_registers.Goals as goal

pub loop-finding-preserved : goal.loop-finding-preserved
loop-finding-preserved c =
    let h = c.args.history.now in
    let inv = c.loop-finding.invariant in
    let reports = c.loop-finding.reports.items in
    let name = c.index-name.result.now in
    let within =
    has-name h c.requires.names (length reports) _ _ c.in-Some.finding inv.3 c.in-Some.ensures.steps.0 in
    let named : slice_get h.names.items (length reports) ≡ Some name =
    slice_get_read h.names.items (length h.names.items) (length reports) name refl within
    (search rules) in
    let some =
    has-ops h c.requires.names (length reports) _ _ c.in-Some.finding inv.3 c.in-Some.ensures.steps.0 in
    let ops = c.index-ops.result.now in
    let there : slice_get h.registers.items (length reports) ≡ Some ops =
    slice_get_read h.registers.items (length h.registers.items) (length reports) ops refl some
    (search rules) in
    let report = c.in_ok-named.field-0 in
    let finding = c.in-Some.finding in
    let words = c.as_slice-words in
    let of_ops =
    subst (λ xs. (lines : List ℕ) → IsFinding lines xs finding → IsLine lines name words.result.now xs report)
    c.deref.ensures.value c.in_ok-named.ensures in
    let line =
    subst (λ ws. (lines : List ℕ) → IsFinding lines ops.items finding → IsLine lines name ws ops.items report)
    words.ensures.value of_ops in
    let grown =
    next-line h c.requires.names reports c.push.new.self.items _ _ c.in-Some.finding c.in_ok-named.field-0
    name ops inv.2 inv.3 c.in-Some.ensures.steps.0 named there line
    c.in_ok-push.ensures.items in
    (tt, tt, grown.0, grown.1)

pub returns : goal.returns
returns c =
    let inv = c.loop-finding.invariant in
    let rest = c.loop-finding.finding-iterator.rest in
    all-lines c.args.history.now c.requires.names c.loop-finding.reports.items rest.items inv.2 inv.3
    (no-items rest.items (sym rest.ok.0 ∙ c.in-None.ensures.steps.0))
