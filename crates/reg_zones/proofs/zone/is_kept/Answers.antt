use Rattle.std.proofs.Common.{◌↔◌, IsTrue, inl, inr, sym, ap, subst, ◌∙◌}
use Rattle.std.proofs.lemmas.Bool.{false≢true}
use Rattle.history_model.specs.declared.op.Op.{Op}
use Rattle.history_model.specs.Operations.{writes, of_register, operations}
use Rattle.history_model.specs.declared.operation.Operation.{Operation}
use Rattle.history_model.specs.OfValue.{IsFirstReply}
use Rattle.history_model.proofs.Plain.{changes-kind}
use Rattle.reg_zones.specs.Clusters.{IsKept}
use Rattle.reg_zones.proofs.Kept.{with-register, the_one, kept-found, unkept}
use Rattle.reg_zones.proofs.zone.is_kept.Goals as goal

pub returns-in-WriteOp-Some : goal.returns-in-WriteOp-Some
returns-in-WriteOp-Some c w n =
    let h = c.args.arena.now in
    let e = c.with_operation.ensures.operation in
    let o = e.0 in
    let op = c.with_operation.result.1 in
    let p =
    with-register c.with_operation.result.0 h c.args.oper o op c.with_operation.ensures.arena e.1
    e.2 e.3 in
    let f =
    subst (λ r. IsFirstReply h r c.in-WriteOp-Some.value c.first_reply.result) e.3
    c.first_reply.ensures in
    let u = changes-kind o.act ∙ ap writes (ap (λ (x : Op). x.kind) (sym e.2) ∙ c.in-WriteOp-Some.is-0) in
    let v = ap (λ (x : Op). x.value) (sym e.2) ∙ c.in-WriteOp-Some.is-1 in
    let k = kept-found h c.args.oper o op p c.in-WriteOp-Some.value c.first_reply.result u v f in
    subst (λ (x : Operation). IsTrue c.is_some.result ↔ IsKept (of_register x.register (operations h)) x)
    (the_one h c.args.oper o op p w n)
    (subst (λ b. IsTrue b ↔ IsKept (of_register o.register (operations h)) o) (sym c.is_some.ensures) k)

pub returns-in-WriteOp-None : goal.returns-in-WriteOp-None
returns-in-WriteOp-None c w n =
    let e = c.with_operation.ensures.operation in
    let p =
    with-register c.with_operation.result.0 c.args.arena.now c.args.oper e.0 c.with_operation.result.1
    c.with_operation.ensures.arena e.1 e.2 e.3 in (
      λ q. absurd (false≢true q),
      λ k. absurd (unkept c.args.arena.now c.args.oper e.0 c.with_operation.result.1 p w n
          (inl c.in-WriteOp-None.is-1) k),
    )

pub returns-in-WriteOp-None-2 : goal.returns-in-WriteOp-None-2
returns-in-WriteOp-None-2 c w n =
    let e = c.with_operation.ensures.operation in
    let p =
    with-register c.with_operation.result.0 c.args.arena.now c.args.oper e.0 c.with_operation.result.1
    c.with_operation.ensures.arena e.1 e.2 e.3 in (
      λ q. absurd (false≢true q),
      λ k. absurd (unkept c.args.arena.now c.args.oper e.0 c.with_operation.result.1 p w n
          (inr c.in-WriteOp-None.is-0) k),
    )
