use Rattle.std.proofs.Common.{sym, subst, ◌∙◌}
use Rattle.reg_arena.specs.Lists.EventLists.{IsKeptWrite, events_in}
use Rattle.reg_arena.proofs.ListLemmas.KeptWrite.{kept-write, kept-none}
use Rattle.reg_arena.proofs.event_lists.lists.EventLists.write.Goals as goal

pub returns : goal.returns
returns c =
    subst (IsKeptWrite (events_in c.args.self.now) _) (sym c.kept.ensures)
    (kept-write c.args.self.now c.requires _ c.in_ok-entry.field-0 (sym c.entry.ensures ∙ c.in_ok-entry.was))

pub returns-in_err-entry : goal.returns-in_err-entry
returns-in_err-entry c =
    subst (IsKeptWrite (events_in c.args.self.now) _) (sym c.from_residual.ensures)
    (kept-none c.args.self.now c.requires _ (sym c.entry.ensures ∙ c.in_err-entry.was))
