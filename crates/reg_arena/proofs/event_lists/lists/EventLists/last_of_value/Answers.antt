-- The end of the list of a register and value is their last event; without an entry they have none.
use Rattle.std.proofs.Common.{◌≡◌, Some, ap, option_map, subst, sym, ◌∙◌}
use Rattle.reg_arena.specs.declared.event_lists.list_ends.Entry.{Entry}
use Rattle.reg_arena.specs.Lists.EventLists.{IsLastOf, events_in}
use Rattle.history_model.specs.Walking.{by_value}
use Rattle.reg_arena.proofs.event_lists.lists.EventLists.last_of_value.Goals as goal

pub returns-in_err-entry-clause-last : goal.returns-in_err-entry-clause-last
returns-in_err-entry-clause-last c = λ v q.
    let was = c.in_ok-value.was in
    let same : c.in_ok-value.field-0 ≡ v = cc (was, q) in
    subst (λ v. IsLastOf by_value (events_in c.args.self.now) (
      c.args.register.0,
      v,
    ) c.from_residual-in_err-entry.result) same
    (subst (IsLastOf by_value _ _) (sym c.from_residual-in_err-entry.ensures)
    (c.requires.values.none _ (ap (option_map (λ (y : Entry). y.ends)) (sym c.entry.ensures
    ∙ c.in_err-entry.was))))

pub returns-clause-last : goal.returns-clause-last
returns-clause-last c = λ v q.
    let was = c.in_ok-value.was in
    let same : c.in_ok-value.field-0 ≡ v = cc (was, q) in
    subst (λ v. IsLastOf by_value (events_in c.args.self.now) (
      c.args.register.0,
      v,
    ) (Some c.in_ok-entry.field-0.ends.last)) same
    (c.requires.values.last _ c.in_ok-entry.field-0.ends (ap (option_map (λ (y : Entry). y.ends))
    (sym c.entry.ensures ∙ c.in_ok-entry.was)))
