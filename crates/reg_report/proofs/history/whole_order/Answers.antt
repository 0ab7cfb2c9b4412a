use Rattle.std.proofs.Common.{ap, sym, subst, ◌∙◌}
use Rattle.reg_report.specs.Lines.{HaveCalls, call_line, lines_by}
use Rattle.reg_report.specs.Registers.{IsMergedIfAtomic}
use Rattle.reg_report.proofs.Atomic.{merged-calls, whole-atomic, whole-not-atomic}
use Rattle.reg_report.proofs.history.whole_order.Goals as goal

pub order_lines-requires : goal.order_lines-requires
order_lines-requires c =
    let h = c.args.arena.now in
    let merged = subst (IsMergedIfAtomic h) c.in-Some.is c.in_ok-merged_order.ensures in
    subst (HaveCalls h) (sym c.deref.ensures.value)
    (merged-calls h c.arena_laws.ensures c.in-Some.merged.items merged)

pub returns-in-None : goal.returns-in-None
returns-in-None c =
    let h =
    c.args.arena.now in
    whole-not-atomic h c.arena_laws.ensures
    (subst (IsMergedIfAtomic h) c.in-None.is c.in_ok-merged_order.ensures)

pub returns-in_ok-order_lines-in-Some : goal.returns-in_ok-order_lines-in-Some
returns-in_ok-order_lines-in-Some c =
    let h = c.args.arena.now in
    let merged = subst (IsMergedIfAtomic h) c.in-Some.is c.in_ok-merged_order.ensures in
    whole-atomic h c.arena_laws.ensures c.in-Some.merged.items c.in_ok-order_lines-in-Some.field-0 merged
    (c.in_ok-order_lines-in-Some.ensures ∙ ap (lines_by (call_line h.events)) c.deref.ensures.value)
