use Rattle.std.proofs.Common.{◌+◌, ◌≤◌, ◌∙◌, length, ap, subst, sym, arith}
use Rattle.history_model.specs.declared.op.Op.{Op}
use Rattle.reg_report.proofs.Counting.{IsCount, count-begins, count-call, count-other, count-ends}
use Rattle.reg_report.proofs.Tallying.{counting-begins, counting-ends}
use Rattle.reg_report.proofs.Tallying.{counting-skips, counting-adds, tally-room}
use Rattle.reg_report.proofs.tally.count_calls.Goals.{then-begins, else-begins}
use Rattle.reg_report.proofs.tally.count_calls.Goals as goal
use Rattle.history_model.proofs.Lists.{slice_get_inside}

pub loop-number-init : goal.loop-number-init
loop-number-init c = record {
  operations = count-begins c.args.arena.now.events;
  tallies =
      counting-begins c.args.arena.now c.in_ok-tallies.tallies.items c.register_count.result
      c.in_ok-tallies.ensures c.register_count.ensures.count;
}

pub op-requires : goal.op-requires
op-requires c =
    let x =
    slice_get_inside c.args.arena.now.events c.loop-number.number (omega (
      arith,
      c.loop-number-test.true,
      c.event_count-number-end.ensures.count,
    )) in
    (x.0, x.1, sym (c.begins.ensures x.0 x.1) ∙ c.if-begins.true)

pub add-requires-clause-within : goal.add-requires-clause-within
add-requires-clause-within c =
    let o = c.op.ensures in
    let within = c.arena_laws.ensures.numbered o.0 o.1.one in
    let register = ap (λ (x : Op). x.register.0) o.2 in
    omega (arith, within, register, c.loop-number.invariant.tallies.count)

pub add-requires-clause-room : goal.add-requires-clause-room
add-requires-clause-room c =
    λ t q. tally-room c.args.arena.now c.loop-number.number c.loop-number.tallies.items
    c.loop-number.invariant.tallies (omega (
      arith,
      c.event_count-number-end.ensures.count,
      c.event_count-number-end.ensures.bound,
    )) _ t q

pub loop-number-preserved : goal.loop-number-preserved
loop-number-preserved c =
    let h = c.args.arena.now in
    let n = c.loop-number.number in
    let operations = c.loop-number.invariant.operations in
    let tallies = c.loop-number.invariant.tallies in
    let x =
    slice_get_inside h.events n (omega (
      arith,
      c.loop-number-test.true,
      c.event_count-number-end.ensures.count,
    )) in
    let is = c.begins.ensures x.0 x.1 in
    elim c.if-begins.branch [
      | then-begins w ↦
          let o = w.op.ensures in
          let register = ap (λ (x : Op). x.register.0) o.2 in
          record {
            operations =
                subst (λ k. IsCount h.events k (n + 1)) (sym w.operations-is)
                (count-call h.events c.loop-number.operations n x.0 operations x.1 (sym is
                ∙ w.if-begins.true));
            tallies =
                rw w.tallies-is
                (counting-adds h n c.loop-number.tallies.items w.add.new.tallies.items x.0 o.0 w.op.result
                tallies x.1 (sym is ∙ w.if-begins.true) o.1 o.2 (rw register at w.add.ensures)
                (c.arena_laws.ensures.numbered o.0 o.1.one));
          }
      | else-begins w ↦
          record {
            operations =
                subst (λ k. IsCount h.events k (n + 1)) (sym w.operations-is)
                (count-other h.events c.loop-number.operations n x.0 operations x.1 (sym is
                ∙ w.if-begins.false));
            tallies =
                rw w.tallies-is (counting-skips h n c.loop-number.tallies.items x.0 tallies x.1 (sym is
                ∙ w.if-begins.false));
          }
    ]

pub returns : goal.returns
returns c =
    let h = c.args.arena.now in
    let n = c.loop-number.number in
    let over : length h.events ≤ n =
    omega (
      arith,
      c.loop-number.auto.number-end,
      c.loop-number-test.false,
      c.event_count-number-end.ensures.count,
    ) in
    record {
      operations = count-ends h.events c.loop-number.operations n c.loop-number.invariant.operations over;
      tallies = counting-ends h n c.loop-number.tallies.items over c.loop-number.invariant.tallies;
    }
