use Rattle.std.proofs.Common.{subst}
use Rattle.reg_levels.specs.Decisions.{IsDecision}
use Rattle.level_report.proofs.Deciding.{found-broken, found-kept}
use Rattle.level_report.proofs.guarantees.found_of.Goals as goal

pub returns-in-Kept : goal.returns-in-Kept
returns-in-Kept c =
    let ops = c.args.ops.now in
    let clusters = c.args.table.now.clusters.items in
    let d = subst (IsDecision c.args.guarantee ops clusters) c.in-Kept.is c.in_ok-clusters.ensures in
    found-kept c.args.guarantee ops clusters c.in-Kept.clusters c.requires.history
    (record { within = d.0; clean = d.1; writes = d.2 })

pub returns-in_ok-fault_lines-in-Broken : goal.returns-in_ok-fault_lines-in-Broken
returns-in_ok-fault_lines-in-Broken c =
    let ops = c.args.ops.now in
    let clusters = c.args.table.now.clusters.items in
    let d = subst (IsDecision c.args.guarantee ops clusters) c.in-Broken.is c.in_ok-clusters.ensures in
    found-broken c.args.guarantee ops clusters c.in_ok-fault_lines-in-Broken.field-0 d.0 c.requires.history
    d.2 (c.in_ok-fault_lines-in-Broken.ensures d.0 d.1)
