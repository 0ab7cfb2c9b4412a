use Rattle.std.proofs.Common.{◌≡◌, sym, ap, ◌∙◌}
use Rattle.history_model.specs.declared.ids.Oper.{Oper}
use Rattle.reg_zones.proofs.Known.{facts}
use Rattle.reg_zones.proofs.Registers.{first_replied, last_called}
use Rattle.reg_zones.proofs.fault.conflict_of.Goals as goal

both : (a b c d : Oper) → a ≡ c → b ≡ d → ◌≡◌ {A = Oper × Oper} (a, b) (c, d)
both a b c d e f = ap (λ x. (x, b)) e ∙ ap (λ x. (c, x)) f

pub replied_at-requires : goal.replied_at-requires
replied_at-requires c =
    let q = c.requires in
    let a =
    first_replied c.args.register.arena.now c.args.register.id.0 (facts c.args.register) q.0 q.3.kept in
    (a.0, a.1.member.within, a.2, a.1.least ∙ sym q.3.zone.reply)

pub replied_at-requires-2 : goal.replied_at-requires-2
replied_at-requires-2 c =
    let q = c.requires in
    let a =
    first_replied c.args.register.arena.now c.args.register.id.0 (facts c.args.register) q.1 q.4.kept in
    (a.0, a.1.member.within, a.2, a.1.least ∙ sym q.4.zone.reply)

pub returns : goal.returns
returns c =
    let q = c.requires in
    let a =
    first_replied c.args.register.arena.now c.args.register.id.0 (facts c.args.register) q.0 q.3.kept in
    let b = last_called c.args.register.arena.now c.args.register.id.0 (facts c.args.register) q.1 q.4.kept in
    let x =
    first_replied c.args.register.arena.now c.args.register.id.0 (facts c.args.register) q.1 q.4.kept in
    let y =
    last_called c.args.register.arena.now c.args.register.id.0 (facts c.args.register) q.0 q.3.kept in (
      q.0,
      q.1,
      a.0,
      b.0,
      x.0,
      y.0,
      q.2,
      record { reply = a.1; call = b.1 },
      record { reply = x.1; call = y.1 },
      both _ _ _ _ q.3.write q.4.write,
      both _ _ _ _ (sym (c.replied_at.ensures a.0 a.1.member.within a.2 (a.1.least ∙ sym q.3.zone.reply)))
          (sym (c.called_at.ensures b.0 b.1.member.within (b.1.greatest ∙ sym q.4.zone.call))),
      both _ _ _ _ (sym (c.replied_at-2.ensures x.0 x.1.member.within x.2 (x.1.least ∙ sym q.4.zone.reply)))
          (sym (c.called_at-2.ensures y.0 y.1.member.within (y.1.greatest ∙ sym q.3.zone.call))),
    )
