use Rattle.std.proofs.Common.{refl, subst, length}
use Rattle.std.proofs.lemmas.Option.{slice_get_read}
use Rattle.search_report.specs.Registers.{IsFinding}
use Rattle.search_report.proofs.OneMore.{one-finding-more}
use Rattle.search_report.proofs.rounds.found_of_each.Goals as goal

pub loop-ops-preserved : goal.loop-ops-preserved
loop-ops-preserved c =
    let l = c.loop-ops in
    let ops = c.ops-item.result in
    one-finding-more c.args.lines.now c.args.registers.now l.findings.items c.push.new.self.items l.ops-index
    ops c.in_ok-finding_of.field-0
    (slice_get_read c.args.registers.now (length c.args.registers.now) l.ops-index ops refl
    c.loop-ops-test.true c.ops-item.is) l.invariant
    (subst (λ xs. IsFinding c.args.lines.now xs c.in_ok-finding_of.field-0) c.deref.ensures.value
    c.in_ok-finding_of.ensures) c.in_ok-push.ensures.items
