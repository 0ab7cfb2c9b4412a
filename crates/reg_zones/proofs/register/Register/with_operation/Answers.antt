use Rattle.std.proofs.Common.{◌<◌, length, sym, subst}
use Rattle.history_model.specs.declared.op.Op.{Op}
use Rattle.history_model.proofs.Named.{operation-has-register}
use Rattle.reg_zones.proofs.register.Register.with_operation.Goals as goal

pub new-requires : goal.new-requires
new-requires c =
    let h = c.args.arena.now in
    let o = c.op-op.ensures in
    subst (λ (x : Op). x.register.0 < length h.names) (sym o.2)
    (operation-has-register h c.event_count-count.ensures.recorded o.0 o.1.one)
