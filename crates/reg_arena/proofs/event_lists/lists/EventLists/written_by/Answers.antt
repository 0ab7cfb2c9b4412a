use Rattle.std.proofs.Common.{sym, ap, subst, ◌∙◌, option_map, option_and_then}
use Rattle.reg_arena.specs.declared.event_lists.list_ends.Entry.{Entry}
use Rattle.reg_arena.specs.Lists.EventLists.{by_write, entry_in, events_in}
use Rattle.history_model.specs.Walking.{IsFirstOf, by_value}
use Rattle.reg_arena.proofs.ListLemmas.Append.{key-along, write-value}
use Rattle.reg_arena.proofs.event_lists.lists.EventLists.written_by.Goals as goal

pub returns : goal.returns
returns c = λ k q.
    let some =
    sym (ap (option_and_then (entry_in c.args.self.now)) q)
    ∙ (sym c.entry_of.ensures ∙ c.in_ok-entry_of.was) in
    subst (IsFirstOf by_write (events_in c.args.self.now) k) (sym c.called.ensures)
    (c.requires.lists.entries k c.in_ok-entry_of.field-0 some).write

pub returns-in_err-entry_of : goal.returns-in_err-entry_of
returns-in_err-entry_of c = λ k q.
    let none =
    sym (ap (option_and_then (entry_in c.args.self.now)) q)
    ∙ (sym c.entry_of.ensures ∙ c.in_err-entry_of.was) in
    subst (IsFirstOf by_write (events_in c.args.self.now) k) (sym c.from_residual.ensures) (λ i _ h.
    c.requires.lists.values.none k (ap (option_map (λ (y : Entry). y.ends)) none) i
    (key-along by_write by_value (events_in c.args.self.now) k (λ e. write-value e k) i h))
