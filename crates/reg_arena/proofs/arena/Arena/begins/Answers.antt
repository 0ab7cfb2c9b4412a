-- An event begins an operation where it is its own call.
use Rattle.std.proofs.Common.{◌≡◌, nat_eq, false, ap, subst, ◌∙◌, slice_get}
use Rattle.reg_arena.specs.Lists.EventLists.{IsCallOf, events_in}
use Rattle.history_model.specs.History.{History}
use Rattle.history_model.specs.Naming.{begins_at}
use Rattle.reg_arena.proofs.Begins.{begins-none, begins-some}
use Rattle.reg_arena.proofs.arena.Arena.begins.Goals as goal

pub returns-in-Some : goal.returns-in-Some
returns-in-Some c = λ e here.
    let there = ap (λ (h : History). slice_get h.events c.args.id.0) c.self.view_is ∙ here in
    subst (λ (h : History). nat_eq c.in-Some.call.0 c.args.id.0 ≡ begins_at h.events c.args.id.0 e)
    c.self.view_is
    (begins-some (events_in c.self.inside.lists) c.args.id.0 e c.in-Some.call there
    (subst (IsCallOf _ c.args.id.0 e) c.in-Some.is (c.call.ensures e there)))

pub returns-in-None : goal.returns-in-None
returns-in-None c = λ e here.
    let there = ap (λ (h : History). slice_get h.events c.args.id.0) c.self.view_is ∙ here in
    subst (λ (h : History). false ≡ begins_at h.events c.args.id.0 e) c.self.view_is
    (begins-none (events_in c.self.inside.lists) c.args.id.0 e
    (subst (IsCallOf _ c.args.id.0 e) c.in-None.is (c.call.ensures e there)))
