use Rattle.std.proofs.Common.{refl, sym, ap, ◌∙◌, arith}
use Rattle.history_model.specs.declared.operation.Operation.{Operation}
use Rattle.history_model.proofs.Named.{named-oper}
use Rattle.history_model.specs.Operations.{value_of}
use Rattle.reg_zones.proofs.Known.{facts}
use Rattle.reg_zones.proofs.CalledReads.{the_write, no_write, read_of, one_write, call_written, named-call}
use Rattle.reg_zones.proofs.reads.early_at.Goals as goal

pub write_of_read-requires : goal.write_of_read-requires
write_of_read-requires c = let q = c.in-Some.ensures in (q.0, q.1, q.2, q.5, q.6)

pub returns-in_default-clause-early : goal.returns-in_default-clause-early
returns-in_default-clause-early c a w x e =
    let none =
    c.in_default.ensures in
    none a x.within (record { read = x.read.read; completed = x.read.completed }) e

pub returns-in_default-write_of_read-clause-unwritten : goal.returns-in_default-write_of_read-clause-unwritten
returns-in_default-write_of_read-clause-unwritten c =
    let q = c.in-Some.ensures in
    let none = c.in_default-write_of_read.ensures in (
      _,
      refl,
      (
        q.0,
        record {
          within = q.1;
          read = q.2;
          unwritten =
              λ w i u s. no_write c.args.register.arena.now c.args.register.id.0
              (facts c.args.register) _ none w i u (sym s.value ∙ q.5);
        },
        q.3,
        q.4,
      ),
    )

pub call_of-requires : goal.call_of-requires
call_of-requires c =
    let w =
    the_write c.args.register.arena.now c.args.register.id.0
    (facts c.args.register) _ _ c.in-Some-write_of_read.ensures in
    named-oper c.args.register.arena.now _ w.0 w.1

pub returns-then-read-call_of-clause-written : goal.returns-then-read-call_of-clause-written
returns-then-read-call_of-clause-written c =
    let q =
    c.in-Some.ensures in
    call_written c.args.register.arena.now c.args.register.id.0 (facts c.args.register) _ _ _ q.0 q.1
    q.2 q.3 q.5 c.in-Some-write_of_read.ensures

pub returns-then-read-call_of-clause-early : goal.returns-then-read-call_of-clause-early
returns-then-read-call_of-clause-early c =
    let h = c.args.register.arena.now in
    let y = facts c.args.register in
    let q = c.in-Some.ensures in
    let w = the_write h c.args.register.id.0 y _ _ c.in-Some-write_of_read.ensures in
    let call = c.call_of.ensures ∙ sym (named-call h c.args.register.id.0 y _ w.0 w.2 w.1) in (
      q.0,
      w.0,
      record {
        within = q.1;
        write_within = w.2;
        write = w.3;
        read = read_of h c.args.register.id.0 y _ w.0 q.0 w.4 q.2 q.5;
        early = omega (arith, c.if-read-call_of.true, call, q.6);
      },
      q.3,
      q.4,
      w.1.named,
    )

pub returns-else-read-call_of-clause-written : goal.returns-else-read-call_of-clause-written
returns-else-read-call_of-clause-written c =
    let q =
    c.in-Some.ensures in
    call_written c.args.register.arena.now c.args.register.id.0 (facts c.args.register) _ _ _ q.0 q.1
    q.2 q.3 q.5 c.in-Some-write_of_read.ensures

pub returns-else-read-call_of-clause-early : goal.returns-else-read-call_of-clause-early
returns-else-read-call_of-clause-early c a u x e =
    let h = c.args.register.arena.now in
    let y = facts c.args.register in
    let q = c.in-Some.ensures in
    let w = the_write h c.args.register.id.0 y _ _ c.in-Some-write_of_read.ensures in
    let call = c.call_of.ensures ∙ sym (named-call h c.args.register.id.0 y _ w.0 w.2 w.1) in
    let read = y.history.calls a q.0 x.within q.1 (e ∙ sym q.3) in
    let write =
    one_write h c.args.register.id.0 y _ u w.0 x.write_within x.write (sym x.read.value
    ∙ (ap value_of read ∙ q.5)) w.2 w.3 w.4 in
    omega (
      arith,
      x.early,
      c.if-read-call_of.false,
      call,
      q.6,
      ap (λ (z : Operation). z.reply) read,
      ap (λ (z : Operation). z.call) write,
    )
