use Rattle.std.proofs.Common.{Some, set, ap, ◌∙◌}
use Rattle.reg_arena.specs.Lists.Rows.{Columns, with_in_value}
use Rattle.reg_arena.proofs.ListLemmas.RowWritten.{value-written}
use Rattle.reg_arena.proofs.event_lists.rows.Rows.link_in_value.Goals as goal

pub returns : goal.returns
returns c =
    rw c.new.ensures
    (value-written c.self.inside.rows.items c.self.inside.in_register.items c.args.id.0
    c.index_mut.result.now c.index_mut.ensures.value (Some c.args.next)
    ∙ ap (λ (k : Columns). with_in_value k (set k.in_value c.args.id.0 (Some c.args.next))) c.self.view_is)
