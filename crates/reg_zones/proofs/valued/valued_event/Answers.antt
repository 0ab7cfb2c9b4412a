use Rattle.std.proofs.Common.{◌≡◌, ◌-◌, Some, inl, inr, sym, ap, subst, ◌∙◌, arith}
use Rattle.std.proofs.lemmas.Bool.{false≢true}
use Rattle.history_model.specs.declared.op.Op.{Op}
use Rattle.history_model.specs.Naming.{op_shown}
use Rattle.history_model.specs.Operations.{IsCompleted, IsWrite, writes}
use Rattle.history_model.specs.declared.operation.Operation.{Operation}
use Rattle.history_model.specs.Walking.{by_value, key_at}
use Rattle.history_model.proofs.Plain.{changes-kind}
use Rattle.reg_zones.specs.Sweep.{IsMetAt}
use Rattle.reg_zones.proofs.Known.{facts}
use Rattle.reg_zones.proofs.MetEvents.{belonging}
use Rattle.reg_zones.proofs.ValuedEvents.{replied, pending, late-reply, reply-key, call-key, same}
use Rattle.reg_zones.proofs.valued.valued_event.Goals as goal

pub at-requires : goal.at-requires
at-requires c =
    let h = c.args.register.arena.now in
    let r = c.args.register.id.0 in
    let o = subst (IsMetAt h r c.args.id.0) c.in-Call.is c.requires in
    let t = replied h r (facts c.args.register) c.args.id.0 o.0 c.in-Call.op o.1 _ c.in-Some-default.is-0 in
    omega (arith, t.1, late-reply h r (facts c.args.register) c.args.id.0 o.0 c.in-Call.op o.1)

pub returns-in-Reply : goal.returns-in-Reply
returns-in-Reply c =
    let h = c.args.register.arena.now in
    let r = c.args.register.id.0 in
    let o = subst (IsMetAt h r c.args.id.0) c.in-Reply.is c.requires in
    let b = belonging h r c.args.id.0 o.0 o.1 (inr (o.2, o.3)) in
    let k = reply-key h r (facts c.args.register) c.args.id.0 o.0 (op_shown o.0) b o.2 in
    let at : o.0.reply - 2 ≡ c.args.id.0 = omega (arith, o.3) in (
      o.0,
      o.1,
      inr (o.2, o.3),
      (k.0, k.1, subst (λ i. key_at by_value h.events i ≡ Some (r, k.0)) at k.2, inr o.2),
    )

pub returns-in-Some-default : goal.returns-in-Some-default
returns-in-Some-default c =
    let h = c.args.register.arena.now in
    let r = c.args.register.id.0 in
    let o = subst (IsMetAt h r c.args.id.0) c.in-Call.is c.requires in
    let t = replied h r (facts c.args.register) c.args.id.0 o.0 c.in-Call.op o.1 _ c.in-Some-default.is-0 in
    let k = reply-key h r (facts c.args.register) c.args.id.0 o.0 c.in-Call.op o.1 t.0 in (
      o.0,
      o.1.one,
      o.1.event,
      (
        k.0,
        k.1,
        subst (λ i. key_at by_value h.events i ≡ Some (r, k.0)) (ap (λ n. n - 2) t.1
            ∙ sym c.at.ensures) k.2,
        inr t.0,
      ),
    )

pub returns-in-None-WriteOp : goal.returns-in-None-WriteOp
returns-in-None-WriteOp c =
    let h = c.args.register.arena.now in
    let r = c.args.register.id.0 in
    let o = subst (IsMetAt h r c.args.id.0) c.in-Call.is c.requires in
    let d = pending h r (facts c.args.register) c.args.id.0 o.0 c.in-Call.op o.1 c.in-None-WriteOp.is-0 in
    let w =
    changes-kind (o.0).act ∙ ap writes (ap (λ (x : Op). x.kind) (sym o.1.shown) ∙ c.in-None-WriteOp.is-1) in
    let k = call-key h r (facts c.args.register) c.args.id.0 o.0 c.in-Call.op o.1 d w in
    (o.0, o.1.one, o.1.event, (k.0, k.1, k.2, inl w))

pub returns-in-None-ReadOp : goal.returns-in-None-ReadOp
returns-in-None-ReadOp c a k t q =
    let h = c.args.register.arena.now in
    let r = c.args.register.id.0 in
    let o = subst (IsMetAt h r c.args.id.0) c.in-Call.is c.requires in
    let d = pending h r (facts c.args.register) c.args.id.0 o.0 c.in-Call.op o.1 c.in-None-ReadOp.is-0 in
    let w =
    changes-kind (o.0).act ∙ ap writes (ap (λ (x : Op). x.kind) (sym o.1.shown) ∙ c.in-None-ReadOp.is-1) in
    let e = same h r (facts c.args.register) c.args.id.0 o.0 c.in-Call.op o.1 a k t in
    elim q [
      | inl u ↦ false≢true (sym w ∙ subst (λ (x : Operation). IsWrite x) (sym e) u)
      | inr u ↦ false≢true (sym d ∙ subst (λ (x : Operation). IsCompleted x) (sym e) u)
    ]

pub returns-in-Nothing : goal.returns-in-Nothing
returns-in-Nothing c o k t q =
    let none =
    subst (IsMetAt c.args.register.arena.now c.args.register.id.0 c.args.id.0) c.in-Nothing.is
    c.requires in none o k t
