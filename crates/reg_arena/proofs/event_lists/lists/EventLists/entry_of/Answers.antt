use Rattle.std.proofs.Common.{None, Some, refl, sym, ap, arith, ◌∙◌}
use Rattle.std.proofs.lemmas.Option.{slice_get_read}
use Rattle.reg_arena.proofs.ListLemmas.ByEvent.{entry-of, number-within}
use Rattle.reg_arena.proofs.event_lists.lists.EventLists.entry_of.Goals as goal

pub index-requires : goal.index-requires
index-requires c =
    let w =
    number-within c.args.self.now c.requires.lists c.args.id.0 c.in_ok-number.number c.requires.within
    (c.number.ensures ∙ ap Some c.in_ok-number.was) in
    omega arith

pub returns : goal.returns
returns c =
    let at = c.number.ensures ∙ ap Some c.in_ok-number.was in
    let w =
    number-within c.args.self.now c.requires.lists c.args.id.0 c.in_ok-number.number c.requires.within at in
    sym (entry-of c.args.self.now c.requires.lists c.args.id.0 (Some c.in_ok-number.number) c.requires.within
    at
    ∙ slice_get_read c.args.self.now.entries.items _ c.in_ok-number.number c.index.result.now refl w
    c.index.ensures)

pub returns-in_err-number : goal.returns-in_err-number
returns-in_err-number c =
    c.from_residual.ensures
    ∙ sym (entry-of c.args.self.now c.requires.lists c.args.id.0 None c.requires.within (c.number.ensures
    ∙ ap Some c.in_err-number.was))
