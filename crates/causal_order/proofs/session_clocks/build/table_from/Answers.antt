use Rattle.std.proofs.Common.{length, slice_get, refl, sym, ap, subst, ◌∙◌}
use Rattle.causal_order.specs.SessionClocks.Steps.{ArePrevious}
use Rattle.causal_order.specs.declared.session_clocks.table.SessionTable.{SessionTable}
use Rattle.causal_order.proofs.SessionClockLemmas.Tables.{numbers-below, table-from}
use Rattle.causal_order.proofs.session_clocks.build.table_from.Goals as goal

pub previous_calls-requires-clause-below : goal.previous_calls-requires-clause-below
previous_calls-requires-clause-below c = λ p s g.
    let made = c.in_ok-sessions.sessions in
    let is = c.in_ok-sessions.ensures in
    numbers-below c.args.ops.now made.count is.0 made.numbers.items is.1 p s
    (sym (ap (λ xs. slice_get xs p) c.deref.ensures.value) ∙ g)

pub returns : goal.returns
returns c =
    let made = c.in_ok-sessions.sessions in
    let is = c.in_ok-sessions.ensures in
    let previous = c.in_ok-previous.previous in
    let table : SessionTable = record {
      count = made.count;
      numbers = made.numbers;
      previous = previous;
      sources = c.args.sources;
    } in
    table-from c.args.ops.now made.count is.0 made.numbers.items is.1 previous.items c.args.sources.items
    table
    refl refl refl refl
    (subst (λ xs. ArePrevious xs (length xs) previous.items) c.deref.ensures.value c.in_ok-previous.ensures)
    c.requires.sources
