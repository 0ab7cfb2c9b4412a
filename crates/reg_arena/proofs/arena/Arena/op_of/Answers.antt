-- The call beside an event is that of the event's operation.
use Rattle.std.proofs.Common.{ap, subst, sym, ◌∙◌, slice_get}
use Rattle.reg_arena.specs.Lists.EventLists.{IsCallOf}
use Rattle.history_model.specs.History.{History, IsRecorded}
use Rattle.history_model.specs.Naming.{IsOperOf}
use Rattle.reg_arena.proofs.Mapped.{named-by}
use Rattle.reg_arena.proofs.OfValue.{event-operation}
use Rattle.reg_arena.proofs.arena.Arena.op_of.Goals as goal
use Rattle.history_model.proofs.Lists.{slice_get_inside}

pub returns : goal.returns
returns c =
    let e = slice_get_inside c.args.self.now.events c.args.id.0 c.requires in
    let there = ap (λ (h : History). slice_get h.events c.args.id.0) c.self.view_is ∙ e.1 in
    subst (IsOperOf c.args.self.now c.args.id.0)
    (sym (named-by c.call.result c.map.result c.map.ensures.cases))
    (event-operation c.args.self.now (subst IsRecorded c.self.view_is c.self.invariant.2) c.args.id.0 e.0
    c.call.result e.1
    (subst (λ (h : History). IsCallOf h.events c.args.id.0 e.0 c.call.result) c.self.view_is
    (c.call.ensures e.0 there)))
