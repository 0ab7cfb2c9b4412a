use Rattle.std.proofs.Common.{Some, refl, ap, ◌∙◌}
use Rattle.std.proofs.lemmas.Option.{slice_get_read}
use Rattle.causal_order.proofs.SessionClockLemmas.Taking.{taken, taken-initial}
use Rattle.causal_order.proofs.session_clocks.clocks.Clocks.take.Goals as goal

pub known-requires-clause-session : goal.known-requires-clause-session
known-requires-clause-session c =
    let numbers = c.args.table.now.numbers.items in
    slice_get_read numbers _ c.args.place c.index.result.now refl c.requires.within c.index.ensures
    ∙ ap Some c.in-Some.is

pub returns-in_ok-row : goal.returns-in_ok-row
returns-in_ok-row c = λ ops order turn y at.
    taken ops c.args.table.now order turn c.args.self.now y c.args.place at c.in-Some.session
    c.in_ok-row.row.items c.hold.new.self
    (slice_get_read c.args.table.now.numbers.items _ c.args.place c.index.result.now refl
    c.requires.within c.index.ensures
    ∙ ap Some c.in-Some.is)
    c.in_ok-row.ensures c.hold.ensures

pub returns-in_default : goal.returns-in_default
returns-in_default c = λ ops order turn y at.
    taken-initial ops c.args.table.now order turn c.args.self.now y c.args.place at
    (slice_get_read c.args.table.now.numbers.items _ c.args.place c.index.result.now refl
    c.requires.within c.index.ensures
    ∙ ap Some c.in_default.is)
