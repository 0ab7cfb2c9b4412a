use Rattle.std.proofs.Common.{rules, List, length, sym, subst}
use Rattle.reg_zones.specs.declared.placed.Placed.{Placed}
use Rattle.reg_report.specs.Merged.{AreGathered}
use Rattle.reg_report.specs.Registers.{AreGatheredIfAtomic}
use Rattle.reg_report.proofs.Atomic.{whole-atomic, whole-not-atomic}
use Rattle.reg_report.proofs.history.whole_order_in_parts.Goals as goal

pub merged_lines_in_parts-requires : goal.merged_lines_in_parts-requires
merged_lines_in_parts-requires g c =
    let h = c.args.arena.now in (
      search rules,
      subst (λ (ops : List Placed). AreGathered h (length h.names) ops) (sym c.deref.ensures.value)
          (subst (AreGatheredIfAtomic h) c.in-Some.is c.in_ok-orders_of.ensures),
    )

pub returns-in-None : goal.returns-in-None
returns-in-None g c =
    let h =
    c.args.arena.now in
    whole-not-atomic h c.arena_laws.ensures
    (subst (AreGatheredIfAtomic h) c.in-None.is c.in_ok-orders_of.ensures)

pub returns-in_ok-merged_lines_in_parts-in-Some : goal.returns-in_ok-merged_lines_in_parts-in-Some
returns-in_ok-merged_lines_in_parts-in-Some g c =
    let merged = c.in_ok-merged_lines_in_parts-in-Some.ensures in
    whole-atomic c.args.arena.now c.arena_laws.ensures merged.0 c.in_ok-merged_lines_in_parts-in-Some.field-0
    merged.1 merged.2
