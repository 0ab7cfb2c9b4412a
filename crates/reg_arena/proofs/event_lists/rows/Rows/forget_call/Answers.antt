use Rattle.std.proofs.Common.{None, set, ap, ◌∙◌}
use Rattle.reg_arena.specs.Lists.Rows.{Columns, with_calls}
use Rattle.reg_arena.proofs.ListLemmas.RowWritten.{call-written}
use Rattle.reg_arena.proofs.event_lists.rows.Rows.forget_call.Goals as goal

pub returns : goal.returns
returns c =
    rw c.new.ensures
    (call-written c.self.inside.rows.items c.self.inside.in_register.items c.args.id.0
    c.index_mut.result.now c.index_mut.ensures.value None
    ∙ ap (λ (k : Columns). with_calls k (set k.calls c.args.id.0 None)) c.self.view_is)
