use Rattle.std.proofs.Common.{◌≡◌, ◌<◌, length, refl, subst, arith}
use Rattle.std.proofs.lemmas.List.{length-set}
use Rattle.std.proofs.lemmas.Option.{slice_get_read}
use Rattle.std.specs.Vec.{with_item}
use Rattle.causal_order.specs.SessionClocks.WriteIndex.{AreSortedBelow}
use Rattle.causal_order.specs.declared.session_clocks.writes.WriteIndex.{WriteIndex}
use Rattle.causal_order.proofs.SessionClockLemmas.Indexed.{sorted-more, sorted-none}
use Rattle.causal_order.proofs.session_clocks.writes.WriteIndex.sort.Goals as goal

pub loop-register-init : goal.loop-register-init
loop-register-init c = sorted-none c.args.self.now

pub loop-register-preserved : goal.loop-register-preserved
loop-register-preserved c =
    let old = c.loop-register.self in
    let lists = old.registers.items in
    let i = c.loop-register.register in
    let below : i < length lists =
    omega (
      arith,
      c.loop-register-test.true,
      c.len-register-end.ensures,
      c.args.self.now.registers.ok.0,
      c.loop-register.invariant.registers,
    ) in
    let there = slice_get_read lists _ i c.index_mut.result.now refl below c.index_mut.ensures.value in
    let new : WriteIndex = record { registers = with_item old.registers i c.sort_list.new.writes } in
    sorted-more c.args.self.now old new i c.index_mut.result.now c.sort_list.new.writes
    c.loop-register.invariant
    there refl (length-set lists i c.sort_list.new.writes) c.sort_list.ensures.permutation
    c.sort_list.ensures.ascending

pub returns : goal.returns
returns c =
    let all : c.loop-register.register ≡ length c.args.self.now.registers.items =
    omega (
      arith,
      c.loop-register-test.false,
      c.loop-register.auto.register-end,
      c.len-register-end.ensures,
      c.args.self.now.registers.ok.0,
    ) in
    subst (AreSortedBelow c.args.self.now c.loop-register.self) all c.loop-register.invariant
