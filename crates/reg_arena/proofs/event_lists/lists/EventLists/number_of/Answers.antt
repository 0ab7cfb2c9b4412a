use Rattle.std.proofs.Common.{subst, ◌∙◌}
use Rattle.reg_arena.specs.Lists.EventLists.{IsAlike, events_in}
use Rattle.reg_arena.proofs.ListLemmas.ByEvent.{number-absent}
use Rattle.reg_arena.proofs.event_lists.lists.EventLists.number_of.Goals as goal

pub returns-in_err-alike : goal.returns-in_err-alike
returns-in_err-alike c = λ e a.
    c.from_residual.ensures
    ∙ number-absent c.args.self.now c.requires.lists e
    (subst (IsAlike (events_in c.args.self.now) e) c.in_err-alike.was a)
