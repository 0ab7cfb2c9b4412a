use Rattle.std.proofs.Common.{◌≡◌, Some, sym, ap, ◌∙◌, subst, arith}
use Rattle.std.proofs.lemmas.Bool.{false≢true}
use Rattle.history_model.specs.Lamport.{HasOverlappedValue}
use Rattle.history_model.specs.Operations.{of_register, operations}
use Rattle.history_model.specs.Walking.{by_value, key_at}
use Rattle.history_model.specs.declared.op.Op.{Op}
use Rattle.history_model.proofs.Named.{one-named, named-oper}
use Rattle.reg_lamport.proofs.Breaking.{value-there, shown-reply, reply-event, none-written, one-written}
use Rattle.reg_lamport.proofs.breaks.has_overlapped_value.Goals as goal

pub returns-in_default : goal.returns-in_default
returns-in_default c =
    let q = c.requires in
    absurd (c.in_default.not-Some q.operation.reply (ap (λ (p : Op). p.reply) q.is
    ∙ shown-reply c.args.arena.now q.recorded c.args.register.0 q.operation q.within q.read))

pub at-requires : goal.at-requires
at-requires c =
    let q =
    c.requires in (reply-event c.args.arena.now q.recorded c.args.register.0 q.operation q.within q.read
    c.args.read.now q.is c.in-Some.reply c.in-Some.is).0

pub write_of_event-requires : goal.write_of_event-requires
write_of_event-requires c =
    let q = c.requires in
    let k =
    reply-event c.args.arena.now q.recorded c.args.register.0 q.operation q.within q.read c.args.read.now
    q.is c.in-Some.reply c.in-Some.is in
    omega (arith, c.at.ensures, k.1)

pub overlap-requires-clause-one : goal.overlap-requires-clause-one
overlap-requires-clause-one c =
    let h = c.args.arena.now in
    let q = c.requires in
    let v = value-there h q.recorded c.args.register.0 q.operation q.within q.read in
    let k =
    reply-event h q.recorded c.args.register.0 q.operation q.within q.read c.args.read.now q.is
    c.in-Some.reply c.in-Some.is in
    let key =
    subst (λ i. key_at by_value h.events i ≡ Some (c.args.register.0, v.0)) (sym c.at.ensures) k.2 in
    let x = c.in-Some-write_of_event.ensures.write (c.args.register.0, v.0) key in
    named-oper h c.in-Some-write_of_event.write x.0 x.1

pub overlap-requires-clause-other : goal.overlap-requires-clause-other
overlap-requires-clause-other c =
    let q = c.requires in named-oper c.args.arena.now c.args.name q.operation q.named

pub returns-in-Some-write_of_event : goal.returns-in-Some-write_of_event
returns-in-Some-write_of_event c r named =
    let h = c.args.arena.now in
    let q = c.requires in
    let v = value-there h q.recorded c.args.register.0 q.operation q.within q.read in
    let k =
    reply-event h q.recorded c.args.register.0 q.operation q.within q.read c.args.read.now q.is
    c.in-Some.reply c.in-Some.is in
    let key =
    subst (λ i. key_at by_value h.events i ≡ Some (c.args.register.0, v.0)) (sym c.at.ensures) k.2 in
    let x =
    one-written h q.recorded c.args.register.0 q.operation q.within q.read v.0 v.1
    c.in-Some-write_of_event.write (c.in-Some-write_of_event.ensures.write (
      c.args.register.0,
      v.0,
    ) key) in
    let same = one-named h c.args.name q.operation r q.named named in
    let over = c.overlap.ensures x.0 q.operation x.1 q.named in (
      λ t. subst (HasOverlappedValue (of_register c.args.register.0 (operations h))) same (x.2.0 (over.0 t)),
      λ v. over.1 (x.2.1
          (subst (HasOverlappedValue (of_register c.args.register.0 (operations h))) (sym same) v)),
    )

pub returns-in-None : goal.returns-in-None
returns-in-None c r named =
    let h = c.args.arena.now in
    let q = c.requires in
    let v = value-there h q.recorded c.args.register.0 q.operation q.within q.read in
    let k =
    reply-event h q.recorded c.args.register.0 q.operation q.within q.read c.args.read.now q.is
    c.in-Some.reply c.in-Some.is in
    let key =
    subst (λ i. key_at by_value h.events i ≡ Some (c.args.register.0, v.0)) (sym c.at.ensures) k.2 in
    let same = one-named h c.args.name q.operation r q.named named in (
      λ t. absurd (false≢true t),
      λ x. absurd (none-written h q.recorded c.args.register.0 q.operation q.within q.read v.0 v.1
          (c.in-None.ensures.write (c.args.register.0, v.0) key)
          (subst (HasOverlappedValue (of_register c.args.register.0 (operations h))) (sym same) x)),
    )
