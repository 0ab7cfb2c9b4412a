use Rattle.std.proofs.Common.{ap, option_map, subst, sym, ◌∙◌}
use Rattle.reg_arena.specs.declared.event_lists.list_ends.Entry.{Entry}
use Rattle.history_model.specs.Walking.{IsFirstOf, by_value}
use Rattle.reg_arena.proofs.event_lists.lists.EventLists.first_with_value.Goals as goal

pub returns-in_err-entry : goal.returns-in_err-entry
returns-in_err-entry c =
    subst (IsFirstOf by_value _ _) (sym c.from_residual.ensures) (λ i _ q. c.requires.values.none _
    (ap (option_map (λ (y : Entry). y.ends)) (sym c.entry.ensures ∙ c.in_err-entry.was)) i q)

pub returns : goal.returns
returns c =
    c.requires.values.first _ c.in_ok-entry.field-0.ends
    (ap (option_map (λ (y : Entry). y.ends)) (sym c.entry.ensures ∙ c.in_ok-entry.was))
