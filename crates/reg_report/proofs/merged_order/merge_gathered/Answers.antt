use Rattle.std.proofs.Common.{◌∙◌, List, ap, arith, length, subst}
use Rattle.std.proofs.lemmas.Result.{IfOk-weaker}
use Rattle.reg_zones.specs.declared.placed.Placed.{Placed}
use Rattle.reg_report.specs.ByPoint.{IsByPoint}
use Rattle.reg_report.specs.Merged.{IsMergedAnswer}
use Rattle.reg_report.proofs.Gathered.{few, merged_answer, names}
use Rattle.reg_report.proofs.merged_order.merge_gathered.Goals as goal

pub by_point-requires : goal.by_point-requires
by_point-requires c =
    let count =
    few c.args.arena.now c.arena_laws.ensures c.requires.0 c.requires.1 in
    omega (
      arith,
      count,
      ap length c.requires.2,
      c.arena_laws.ensures.events,
      c.arena_laws.ensures.registers,
    )

pub returns : goal.returns
returns c =
    let h = c.args.arena.now in
    let os = c.requires.0 in
    let given = c.requires.2 ∙ names h c.arena_laws.ensures os c.requires.1 in
    IfOk-weaker c.by_point.result
    (λ listed. IsByPoint c.args.operations.items listed.items)
    (λ listed. IsMergedAnswer h listed.items)
    (λ listed is. merged_answer h c.arena_laws.ensures os c.requires.1 listed.items
    (subst (λ (ops : List Placed). IsByPoint ops listed.items) given is))
    c.by_point.ensures
