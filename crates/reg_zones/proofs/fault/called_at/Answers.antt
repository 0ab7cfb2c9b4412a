use Rattle.std.proofs.Common.{◌-◌, sym, ap, ◌∙◌, arith}
use Rattle.history_model.specs.declared.ids.Oper.TheVariants.{Called}
use Rattle.reg_zones.proofs.Known.{facts}
use Rattle.reg_zones.proofs.Registers.{call-name}
use Rattle.reg_zones.proofs.fault.called_at.Goals as goal

pub returns-then-time-lt2 : goal.returns-then-time-lt2
returns-then-time-lt2 c a k e =
    (call-name c.args.register.arena.now c.args.register.id.0 (facts c.args.register) a k).0 (omega (
      arith,
      e,
      c.if-time-lt2.true,
    ))

pub returns-else-time-lt2 : goal.returns-else-time-lt2
returns-else-time-lt2 c a k e =
    (call-name c.args.register.arena.now c.args.register.id.0 (facts c.args.register) a k).1 (omega (
      arith,
      e,
      c.if-time-lt2.false,
    ))
    ∙ (ap (λ t. Called (record { 0 = t - 2 })) e ∙ ap (λ i. Called (record { 0 = i })) (sym c.at.ensures))
