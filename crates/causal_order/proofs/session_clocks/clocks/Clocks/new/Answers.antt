use Rattle.std.proofs.Common.{refl, ◌∙◌}
use Rattle.causal_order.specs.declared.session_clocks.clocks.Clocks.{Clocks}
use Rattle.causal_order.proofs.SessionClockLemmas.Turned.{begun}
use Rattle.causal_order.proofs.session_clocks.clocks.Clocks.new.Goals as goal

pub returns : goal.returns
returns c = λ ops y.
    let clocks : Clocks = record {
      rows = c.in_ok-no_rows.field-0;
      until = c.in_ok-last_turns.field-0;
      held = 0;
    } in
    begun ops c.args.table.now c.args.order.now clocks y
    (c.in_ok-no_rows.ensures.size ∙ (c.len.ensures ∙ c.args.table.now.numbers.ok.0))
    c.in_ok-no_rows.ensures.none c.in_ok-last_turns.ensures refl
