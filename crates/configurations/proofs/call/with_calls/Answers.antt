use Rattle.std.proofs.Common.{◌≡◌, ◌∙◌, ◌≤◌, arith, length, length-set, refl, slice_get, Some, sym}
use Rattle.std.proofs.lemmas.Option.{slice_get_read}
use Rattle.configurations.proofs.Calling.{with_all, with_any, with_more, with_none}
use Rattle.configurations.proofs.call.with_calls.Goals as goal

pub loop-at-init : goal.loop-at-init
loop-at-init g c = record { called = with_none c.args.table.now c.args.slot c.args.configs.now; long = refl }

pub loop-at-preserved : goal.loop-at-preserved
loop-at-preserved g c =
    let items = c.loop-at.configs.list.items in
    let there : slice_get items c.loop-at.at ≡ Some c.index_mut.result.now =
    slice_get_read items (length items) c.loop-at.at c.index_mut.result.now refl
    (omega (arith, c.loop-at.invariant.long, c.len-at-end.ensures, c.loop-at-test.true))
    c.index_mut.ensures.value in
    let before = sym (c.loop-at.invariant.called.rest c.loop-at.at (omega arith)) ∙ there in
    let off = c.requires.off c.loop-at.at c.index_mut.result.now before in
    record {
      called =
          with_more c.args.table.now c.args.slot c.args.configs.now c.loop-at.configs _ c.loop-at.at
          c.index_mut.result.now c.add_call.new.config refl there
          (c.add_call.ensures.held (c.requires.held c.loop-at.at c.index_mut.result.now before))
          (λ es l. c.add_call.ensures.able es off.0 off.1 l) c.loop-at.invariant.called;
      long = length-set items c.loop-at.at c.add_call.new.config ∙ c.loop-at.invariant.long;
    }

pub returns : goal.returns
returns g c =
    let all : length c.loop-at.configs.list.items ≤ c.loop-at.at =
    omega (arith, c.loop-at.invariant.long, c.len-at-end.ensures, c.loop-at-test.false) in
    record {
      held =
          with_all c.args.table.now c.args.slot c.args.configs.now c.loop-at.configs c.loop-at.at all
          c.loop-at.invariant.called;
      able =
          with_any c.args.table.now c.args.slot c.args.configs.now c.loop-at.configs c.loop-at.at all
          c.loop-at.invariant.called;
    }
