use Rattle.std.proofs.Common.{ℕ, refl, ap, sym, ◌∙◌}
use Rattle.history_model.specs.declared.ids.Oper.TheVariants.{Initial}
use Rattle.history_model.specs.Operations.{initial_write}
use Rattle.reg_zones.specs.Register.{operations_of}
use Rattle.reg_zones.specs.declared.entry.Entry.{Entry}
use Rattle.reg_zones.proofs.LowEndAt.{zone-low}
use Rattle.reg_zones.proofs.entry.initial_entry.Goals as goal

pub returns : goal.returns
returns c =
    let low =
    c.low.ensures ∙ sym
    (zone-low (operations_of c.args.register) (initial_write c.args.register.id.0) _
    c.args.initial.zone refl c.requires.zone) in
    let make : ℕ → Entry = λ n. record { low = n; turn = 0; call = 0; oper = Initial c.args.register.id } in
    ap make low
