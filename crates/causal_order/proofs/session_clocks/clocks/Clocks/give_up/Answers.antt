use Rattle.std.proofs.Common.{Some, inl, inr, refl, ap, ◌∙◌, arith}
use Rattle.std.proofs.lemmas.Option.{slice_get_read}
use Rattle.causal_order.proofs.SessionClockLemmas.Giving.{given-up}
use Rattle.causal_order.proofs.session_clocks.clocks.Clocks.give_up.Goals as goal

pub pass-requires-2-clause-within : goal.pass-requires-2-clause-within
pass-requires-2-clause-within c = λ d e.
    let table = c.args.table.now in
    let at =
    slice_get_read table.previous.items _ c.args.place c.index.result.now refl
    (omega (arith, c.requires.within, c.requires.sized.in_range.previous)) c.index.ensures in
    let less = c.requires.sized.in_range.before c.args.place d (inl (at ∙ ap Some e)) in
    omega (arith, less, c.pass.ensures.rows, c.requires.sized.rows)

pub pass-requires-3-clause-within : goal.pass-requires-3-clause-within
pass-requires-3-clause-within c = λ d e.
    let table = c.args.table.now in
    let at =
    slice_get_read table.sources.items _ c.args.place c.index-2.result.now refl
    (omega (arith, c.requires.within, c.requires.sized.in_range.sources)) c.index-2.ensures in
    let less = c.requires.sized.in_range.before c.args.place d (inr (at ∙ ap Some e)) in
    omega (arith, less, c.pass.ensures.rows, c.pass-2.ensures.rows, c.requires.sized.rows)

pub returns : goal.returns
returns c = λ ops order y turn.
    let table = c.args.table.now in
    let before =
    slice_get_read table.previous.items _ c.args.place c.index.result.now refl
    (omega (arith, c.requires.within, c.requires.sized.in_range.previous)) c.index.ensures in
    let source =
    slice_get_read table.sources.items _ c.args.place c.index-2.result.now refl
    (omega (arith, c.requires.within, c.requires.sized.in_range.sources)) c.index-2.ensures in
    given-up ops table order c.args.turn c.args.place c.args.self.now y turn c.index.result.now
    c.index-2.result.now before source c.pass.new.self c.pass-2.new.self c.pass-3.new.self c.pass.ensures
    c.pass-2.ensures c.pass-3.ensures
