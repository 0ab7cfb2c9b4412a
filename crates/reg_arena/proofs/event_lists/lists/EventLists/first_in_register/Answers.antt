use Rattle.std.proofs.Common.{List, ap, subst, sym, ◌∙◌, slice_get}
use Rattle.reg_arena.specs.declared.event_lists.list_ends.Ends.{Ends}
use Rattle.history_model.specs.Walking.{IsFirstOf, by_register}
use Rattle.reg_arena.proofs.event_lists.lists.EventLists.first_in_register.Goals as goal

pub returns-in_err-ends_of : goal.returns-in_err-ends_of
returns-in_err-ends_of c =
    let at = ap (λ (xs : List Ends). slice_get xs c.args.register.0) (sym c.deref.ensures.value) in
    subst (IsFirstOf by_register _ c.args.register.0) (sym c.from_residual.ensures) (λ i _ q.
    c.requires.registers.none c.args.register.0 (at ∙ (sym c.ends_of.ensures ∙ c.in_err-ends_of.was)) i q)

pub returns : goal.returns
returns c =
    let at = ap (λ (xs : List Ends). slice_get xs c.args.register.0) (sym c.deref.ensures.value) in
    c.requires.registers.first c.args.register.0 c.in_ok-ends_of.field-0 (at
    ∙ (sym c.ends_of.ensures ∙ c.in_ok-ends_of.was))
