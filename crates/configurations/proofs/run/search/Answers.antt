use Rattle.std.proofs.Common.{◌∙◌, refl}
use Rattle.configurations.proofs.Going.{first_covers, first_held, more_covers, none_left}
use Rattle.configurations.proofs.run.search.Goals as goal

pub loop-place-init : goal.loop-place-init
loop-place-init g c = record {
  table = c.requires.table;
  held = first_held c.args.now.now c.requires.first;
  ops = refl;
  covers = λ _.
      first_covers c.args.table.now.ops.items c.args.events.now c.args.table.now c.args.now.now refl
      c.requires.none c.requires.first;
}

pub loop-place-preserved : goal.loop-place-preserved
loop-place-preserved g c =
    let after = c.in_ok-step_over.ensures in
    record {
      table = after.table;
      held = after.held;
      ops = after.ops ∙ c.loop-place.invariant.ops;
      covers = λ whole.
          let all = c.are_both-whole.ensures whole in
          more_covers c.args.table.now.ops.items c.args.events.now c.loop-place.place _ c.loop-place.table
          c.step_over.new.table c.loop-place.now c.step_over.new.now c.loop-place-test.true (after.step all.1)
          (c.loop-place.invariant.covers all.0);
    }

pub returns-then-is_hopeless : goal.returns-then-is_hopeless
returns-then-is_hopeless g c = λ in_order alive.
    let all = c.are_both-whole.ensures c.if-not-whole.false in
    none_left c.args.table.now.ops.items c.args.events.now c.loop-place.place c.step_over.new.table
    c.step_over.new.now (c.is_hopeless.ensures c.if-is_hopeless.true)
    (more_covers c.args.table.now.ops.items c.args.events.now c.loop-place.place _ c.loop-place.table
    c.step_over.new.table c.loop-place.now c.step_over.new.now c.loop-place-test.true
    (c.in_ok-step_over.ensures.step all.1) (c.loop-place.invariant.covers all.0)) in_order alive
