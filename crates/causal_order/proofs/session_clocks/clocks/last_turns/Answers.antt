use Rattle.std.proofs.Common.{◌≡◌, length, get_or, replicate, Some, inl, inr, refl, ap, subst, ◌∙◌, arith}
use Rattle.std.proofs.Common.{rules}
use Rattle.std.proofs.lemmas.Option.{slice_get-get_or, slice_get_read}
use Rattle.causal_order.specs.SessionClocks.Clocks.{AreLastTurns}
use Rattle.causal_order.proofs.SessionClockLemmas.Turned.{in-range, last-more, last-none}
use Rattle.causal_order.proofs.session_clocks.clocks.last_turns.Goals as goal

pub loop-turn-init : goal.loop-turn-init
loop-turn-init c =
    last-none c.args.table.now c.args.order.now c.in_ok-until.until.items
    (c.in_ok-until.ensures.items_if_clones_equal (λ y e. search rules)
    ∙ ap (λ n. replicate n 0) (c.len.ensures ∙ c.args.table.now.numbers.ok.0))

pub mark-requires-clause-within : goal.mark-requires-clause-within
mark-requires-clause-within c = λ d e.
    let table = c.args.table.now in
    let y = c.requires.learning.1 in
    let range = in-range c.requires.learning.0 table c.args.order.now y in
    let p = get_or c.args.order.now c.loop-turn.turn 0 in
    let turn = slice_get-get_or c.args.order.now c.loop-turn.turn 0 c.loop-turn-test.true in
    let within = y.turns.within c.loop-turn.turn p turn in
    let at =
    slice_get_read table.previous.items _ p c.index.result.now refl (omega (arith, within, range.previous))
    c.index.ensures in
    let less = range.before p d (inl (at ∙ ap Some e)) in
    omega (arith, less, c.loop-turn.invariant.places)

pub index-requires-in-loop-turn : goal.index-requires-in-loop-turn
index-requires-in-loop-turn c =
    let table = c.args.table.now in
    let y = c.requires.learning.1 in
    let range = in-range c.requires.learning.0 table c.args.order.now y in
    let turn = slice_get-get_or c.args.order.now c.loop-turn.turn 0 c.loop-turn-test.true in
    let within = y.turns.within c.loop-turn.turn _ turn in
    omega (arith, within, range.sources, table.sources.ok.0)

pub mark-requires-in-loop-turn-clause-within : goal.mark-requires-in-loop-turn-clause-within
mark-requires-in-loop-turn-clause-within c = λ d e.
    let table = c.args.table.now in
    let y = c.requires.learning.1 in
    let range = in-range c.requires.learning.0 table c.args.order.now y in
    let p = get_or c.args.order.now c.loop-turn.turn 0 in
    let turn = slice_get-get_or c.args.order.now c.loop-turn.turn 0 c.loop-turn-test.true in
    let within = y.turns.within c.loop-turn.turn p turn in
    let at =
    slice_get_read table.sources.items _ p c.index-in-loop-turn.result.now refl
    (omega (arith, within, range.sources)) c.index-in-loop-turn.ensures in
    let less = range.before p d (inr (at ∙ ap Some e)) in
    omega (arith, less, c.loop-turn.invariant.places, c.mark.ensures.places)

pub loop-turn-preserved : goal.loop-turn-preserved
loop-turn-preserved c =
    let table = c.args.table.now in
    let order = c.args.order.now in
    let y = c.requires.learning.1 in
    let range = in-range c.requires.learning.0 table order y in
    let i = c.loop-turn.turn in
    let p = get_or order i 0 in
    let turn = slice_get-get_or order i 0 c.loop-turn-test.true in
    let within = y.turns.within i p turn in
    let before =
    slice_get_read table.previous.items _ p c.index.result.now refl (omega (arith, within, range.previous))
    c.index.ensures in
    let source =
    slice_get_read table.sources.items _ p c.index-in-loop-turn.result.now refl
    (omega (arith, within, range.sources)) c.index-in-loop-turn.ensures in
    last-more table order i p turn c.index.result.now c.index-in-loop-turn.result.now c.loop-turn.until.items
    c.mark.new.until.items c.mark-in-loop-turn.new.until.items before source c.mark.ensures
    c.mark-in-loop-turn.ensures c.loop-turn.invariant

pub returns : goal.returns
returns c =
    let all : c.loop-turn.turn ≡ length c.args.order.now =
    omega (arith, c.loop-turn-test.false, c.loop-turn.auto.turn-end) in
    subst (λ i. AreLastTurns c.args.table.now c.args.order.now i c.loop-turn.until.items) all
    c.loop-turn.invariant
