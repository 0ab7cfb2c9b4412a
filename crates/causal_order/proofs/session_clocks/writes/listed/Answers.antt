use Rattle.std.proofs.Common.{◌≡◌, ◌+◌, length, get_or, refl, sym, subst, arith}
use Rattle.std.proofs.lemmas.List.{length-set}
use Rattle.std.proofs.lemmas.Option.{slice_get-get_or, slice_get_read}
use Rattle.history_model.specs.Operations.{IsWrite}
use Rattle.reg_levels.proofs.ClusterLemmas.Places.{nothing}
use Rattle.causal_order.specs.SessionClocks.WriteIndex.{IsListed}
use Rattle.causal_order.specs.declared.session_clocks.writes.WriteIndex.{WriteIndex}
use Rattle.causal_order.proofs.SessionClockLemmas.Indexed.{listed-more, listed-none, listed-same}
use Rattle.causal_order.proofs.SessionClockLemmas.Ordered.{at-one}
use Rattle.causal_order.proofs.session_clocks.writes.listed.Goals.{in-Some+in_ok-push, in_default}
use Rattle.causal_order.proofs.session_clocks.writes.listed.Goals as goal

pub loop-place-init : goal.loop-place-init
loop-place-init c =
    listed-none c.args.ops.now c.args.table.now (record { registers = c.in_ok-registers.registers })
    (λ p a at. omega (arith, c.register_count.ensures p a at, c.in_ok-registers.ensures.size))
    c.in_ok-registers.ensures.none

pub loop-place-preserved : goal.loop-place-preserved
loop-place-preserved c =
    let ops = c.args.ops.now in
    let table = c.args.table.now in
    let i = c.loop-place.place in
    let a = get_or ops i nothing in
    let at = slice_get-get_or ops i nothing c.loop-place-test.true in
    let old : WriteIndex = record { registers = c.loop-place.registers } in
    let below = c.loop-place.invariant.registers i a at in
    elim c.match-writing_session.branch [
      | in-Some+in_ok-push w ↦
          let is = w.in-Some.ensures in
          let one = at-one ops i is.0 a is.1 at in
          let there =
          slice_get_read c.loop-place.registers.items _ a.register w.index_mut.result.now refl below
          w.index_mut.ensures.value in
          subst (λ lists. IsListed ops table (i + 1) (record { registers = lists })) (sym w.registers-is)
          (listed-more ops table i old c.loop-place.invariant _ w.in-Some.session a at
          (subst IsWrite one is.2)
          is.3 w.index_mut.result.now w.push.new.self there w.in_ok-push.ensures.items refl
          (length-set c.loop-place.registers.items a.register w.push.new.self))
      | in_default w ↦
          subst (λ lists. IsListed ops table (i + 1) (record { registers = lists })) (sym w.registers-is)
          (listed-same ops table i old c.loop-place.invariant w.in_default.ensures)
    ]

pub returns : goal.returns
returns c =
    let all : c.loop-place.place ≡ length c.args.ops.now =
    omega (arith, c.loop-place-test.false, c.loop-place.auto.place-end) in
    subst (λ i. IsListed c.args.ops.now c.args.table.now i (record {
      registers = c.loop-place.registers;
    })) all
    c.loop-place.invariant
