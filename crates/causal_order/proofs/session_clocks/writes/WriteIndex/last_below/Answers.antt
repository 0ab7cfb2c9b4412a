use Rattle.std.proofs.Common.{◌<◌, length, None, refl, sym, ap, subst, ◌∙◌, arith}
use Rattle.std.proofs.lemmas.Option.{slice_get_read}
use Rattle.causal_order.specs.SessionClocks.WriteIndex.{AreAscending, IsLastIn, list_in}
use Rattle.causal_order.proofs.SessionClockLemmas.Indexed.{last-below, none-past}
use Rattle.causal_order.proofs.session_clocks.writes.WriteIndex.last_below.Goals as goal

pub returns-then-register-len : goal.returns-then-register-len
returns-then-register-len c = λ ops table y.
    let index = c.args.self.now in
    last-below ops table index c.args.register c.args.session c.args.place None y
    (none-past index c.args.register c.args.session c.args.place
    (omega (arith, c.if-register-len.true, c.len.ensures, index.registers.ok.0)))

pub last_in-requires : goal.last_in-requires
last_in-requires c =
    let index = c.args.self.now in
    let below : c.args.register < length index.registers.items =
    omega (arith, c.if-register-len.false, c.len.ensures, index.registers.ok.0) in
    let there = slice_get_read index.registers.items _ c.args.register c.index.result.now refl below
    c.index.ensures in
    subst AreAscending (ap list_in there ∙ sym c.deref.ensures.value) (c.requires.ordered c.args.register)

pub returns : goal.returns
returns c = λ ops table y.
    let index = c.args.self.now in
    let below : c.args.register < length index.registers.items =
    omega (arith, c.if-register-len.false, c.len.ensures, index.registers.ok.0) in
    let there = slice_get_read index.registers.items _ c.args.register c.index.result.now refl below
    c.index.ensures in
    last-below ops table index c.args.register c.args.session c.args.place c.last_in.result y
    (subst (λ xs. IsLastIn xs c.args.session c.args.place c.last_in.result)
    (sym (ap list_in there ∙ sym c.deref.ensures.value)) c.last_in.ensures)
