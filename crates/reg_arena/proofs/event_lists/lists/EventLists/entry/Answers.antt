-- The entry at the place of a register and value is theirs.
use Rattle.std.proofs.Common.{refl, sym, ap, ◌∙◌, arith, option_and_then, slice_get}
use Rattle.std.proofs.lemmas.Option.{slice_get_read}
use Rattle.reg_arena.proofs.ListLemmas.Values.{entry-is, number-within, number-is}
use Rattle.reg_arena.proofs.event_lists.lists.EventLists.entry.Goals as goal

pub index-requires : goal.index-requires
index-requires c =
    let is =
    number-is c.args.self.now.pairs c.args.register.0 c.args.value _ _ c.whole.ensures c.number.ensures
    ∙ c.in_ok-number.was in
    let l = number-within c.args.self.now.pairs (c.args.register.0, c.args.value) c.in_ok-number.number is in
    omega (arith, l, c.requires.numbered)

pub returns : goal.returns
returns c =
    let is =
    number-is c.args.self.now.pairs c.args.register.0 c.args.value _ _ c.whole.ensures c.number.ensures
    ∙ c.in_ok-number.was in
    let l = number-within c.args.self.now.pairs (c.args.register.0, c.args.value) c.in_ok-number.number is in
    let at =
    slice_get_read c.args.self.now.entries.items _ c.in_ok-number.number c.index.result.now refl
    (omega (arith, l, c.requires.numbered)) c.index.ensures in
    sym (entry-is c.args.self.now.pairs c.args.self.now.entries.items (
      c.args.register.0,
      c.args.value,
    ) c.in_ok-number.number c.index.result.now is at)

pub returns-in_err-number : goal.returns-in_err-number
returns-in_err-number c =
    let is =
    number-is c.args.self.now.pairs c.args.register.0 c.args.value _ _ c.whole.ensures c.number.ensures
    ∙ c.in_err-number.was in
    c.from_residual.ensures ∙ sym (ap (option_and_then (slice_get c.args.self.now.entries.items)) is)
