use Rattle.std.proofs.Common.{sym, ap, subst, ◌∙◌, option_and_then}
use Rattle.reg_arena.specs.Lists.EventLists.{IsKeptWrite, entry_in, events_in}
use Rattle.reg_arena.proofs.ListLemmas.KeptWrite.{kept-write, kept-none}
use Rattle.reg_arena.proofs.event_lists.lists.EventLists.write_of_event.Goals as goal

pub returns : goal.returns
returns c = λ k q.
    let some =
    sym (ap (option_and_then (entry_in c.args.self.now)) q)
    ∙ (sym c.entry_of.ensures ∙ c.in_ok-entry_of.was) in
    subst (IsKeptWrite (events_in c.args.self.now) k) (sym c.kept.ensures)
    (kept-write c.args.self.now c.requires.lists k c.in_ok-entry_of.field-0 some)

pub returns-in_err-entry_of : goal.returns-in_err-entry_of
returns-in_err-entry_of c = λ k q.
    let none =
    sym (ap (option_and_then (entry_in c.args.self.now)) q)
    ∙ (sym c.entry_of.ensures ∙ c.in_err-entry_of.was) in
    subst (IsKeptWrite (events_in c.args.self.now) k) (sym c.from_residual.ensures)
    (kept-none c.args.self.now c.requires.lists k none)
