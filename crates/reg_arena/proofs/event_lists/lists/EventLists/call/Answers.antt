use Rattle.reg_arena.proofs.ListLemmas.ByEvent.{call-beside}
use Rattle.reg_arena.proofs.event_lists.lists.EventLists.call.Goals as goal

pub returns : goal.returns
returns c = λ e at. call-beside c.args.self.now c.requires.lists c.args.id.0 e c.call.result at c.call.ensures
