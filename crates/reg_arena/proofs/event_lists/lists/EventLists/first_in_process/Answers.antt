use Rattle.std.proofs.Common.{sym, ◌∙◌}
use Rattle.reg_arena.proofs.event_lists.lists.EventLists.first_in_process.Goals as goal

pub returns : goal.returns
returns c =
    c.requires.processes.first c.args.process c.in_ok-get.field-0 (sym c.get.ensures ∙ c.in_ok-get.was)
