-- An event joins the list of its register, where it has one.
use Rattle.std.proofs.Common.{refl}
use Rattle.reg_arena.proofs.ListLemmas.Columns.{item-push_none}
use Rattle.reg_arena.proofs.event_lists.joins.join_register.Goals as goal

pub returns-in-Some-clause-joined : goal.returns-in-Some-clause-joined
returns-in-Some-clause-joined c = rw c.in-Some.is c.link_register.ensures.joined

pub returns-in-None-clause-joined : goal.returns-in-None-clause-joined
returns-in-None-clause-joined c = rw c.in-None.is (item-push_none c.args.rows.now.in_register, λ q. refl)
