-- An event enters the list of its register and value, known or new, or it has no value.
use Rattle.std.proofs.Common.{◌≡◌, ℕ, ◌∷◌, ◌++◌, [], length, length-append, refl, sym, Some}
use Rattle.std.proofs.Common.{None, arith, ap, ◌∙◌, option_map, option_and_then, slice_get}
use Rattle.std.proofs.lemmas.Option.{slice_get_read}
use Rattle.history_text.specs.declared.event.Val.{Val}
use Rattle.reg_arena.specs.declared.event_lists.list_ends.Entry.{Entry}
use Rattle.history_model.specs.Walking.{by_value}
use Rattle.reg_arena.specs.Lists.EventLists.{value_number, whole}
use Rattle.reg_arena.specs.Lists.Rows.{Columns}
use Rattle.reg_arena.proofs.ListLemmas.Columns.{item-push_none}
use Rattle.reg_arena.proofs.ListLemmas.Values.{known-key, number-within, number-new, entry-is}
use Rattle.reg_arena.proofs.ListLemmas.Values.{entered-known, entered-new, joined-known, joined-new}
use Rattle.reg_arena.proofs.ListLemmas.ByValue.{key-by, key-none, key-without}
use Rattle.reg_arena.proofs.event_lists.joins.join_value.Goals as goal

pub link_in_value-requires-clause-within : goal.link_in_value-requires-clause-within
link_in_value-requires-clause-within c =
    let k =
    known-key c.args.pairs.now c.args.event.now c.in-Some-default-default.number
    (sym c.in-Some-default-default.is-0 ∙ c.requires.number) in
    let l = number-within c.args.pairs.now k.0 c.in-Some-default-default.number k.2 in
    let at =
    slice_get_read c.args.entries.now.items _ c.in-Some-default-default.number c.index-entry.result.now
    refl (omega (arith, l, c.requires.numbered)) c.index-entry.ensures in
    c.requires.within k.0 c.index-entry.result.now.ends
    (ap (option_map (λ (y : Entry). y.ends))
    (entry-is c.args.pairs.now c.args.entries.now.items k.0 c.in-Some-default-default.number
    c.index-entry.result.now k.2 at))

-- ---- a known register and value

there : (c : goal.After-entries-1)
    → slice_get c.args.entries.now.items c.in-Some-default-default.number ≡ Some c.index-entry.result.now
there c =
    let k =
    known-key c.args.pairs.now c.args.event.now c.in-Some-default-default.number
    (sym c.in-Some-default-default.is-0 ∙ c.requires.number) in
    let l = number-within c.args.pairs.now k.0 c.in-Some-default-default.number k.2 in
    slice_get_read c.args.entries.now.items _ c.in-Some-default-default.number c.index-entry.result.now refl
    (omega (arith, l, c.requires.numbered)) c.index-entry.ensures

pub returns-in-Some-default-default-clause-joined : goal.returns-in-Some-default-default-clause-joined
returns-in-Some-default-default-clause-joined c =
    let k =
    known-key c.args.pairs.now c.args.event.now c.in-Some-default-default.number
    (sym c.in-Some-default-default.is-0 ∙ c.requires.number) in
    let is =
    entry-is c.args.pairs.now c.args.entries.now.items k.0 c.in-Some-default-default.number
    c.index-entry.result.now k.2 (there c) in
    let z =
    c.requires.within k.0 c.index-entry.result.now.ends (ap (option_map (λ (y : Entry). y.ends)) is) in
    rw (c.with.ensures, k.1)
    (joined-known c.args.pairs.now c.args.entries.now.items k.0 c.args.event.now c.args.joined.id
    c.args.joined.call c.args.rows.now.in_value _ c.in-Some-default-default.number
    c.index-entry.result.now k.2 (there c) (omega (arith, z, c.requires.column))
    (ap (λ (k : Columns). k.in_value ++ None ∷ []) c.link_in_value.ensures))

pub returns-in-Some-default-default-clause-entered : goal.returns-in-Some-default-default-clause-entered
returns-in-Some-default-default-clause-entered c =
    let k =
    known-key c.args.pairs.now c.args.event.now c.in-Some-default-default.number
    (sym c.in-Some-default-default.is-0 ∙ c.requires.number) in
    rw (
      c.with.ensures,
      k.1,
    ) (entered-known c.args.pairs.now c.args.entries.now.items k.0 c.args.event.now c.args.joined.id
    c.args.joined.call c.in-Some-default-default.number c.index-entry.result.now k.2 (there c))

-- ---- a new one

abbrev key : (c : goal.In_ok-push-in-None-Some-Some) → ℕ × Val
key c = (c.in-None-Some-Some.register.0, c.in-None-Some-Some.value)

by : (c : goal.In_ok-push-in-None-Some-Some) → by_value c.args.event.now ≡ Some (key c)
by c =
    key-by c.args.event.now c.in-None-Some-Some.register c.in-None-Some-Some.value c.in-None-Some-Some.is-2
    c.in-None-Some-Some.is-1

none : (c : goal.In_ok-push-in-None-Some-Some) → value_number c.args.pairs.now (key c) ≡ None
none c =
    sym (sym c.in-None-Some-Some.is-0
    ∙ (c.requires.number ∙ ap (option_and_then (value_number c.args.pairs.now)) (by c)))

keys : (c : goal.In_ok-push-in-None-Some-Some) → c.add.new.self ≡ c.args.pairs.now
    ++ ((key c).0, whole (key c).1) ∷ []
keys c =
    c.in_ok-add-in-None-Some-Some.ensures ∙ ap (λ w. c.args.pairs.now ++ ((key c).0, w) ∷ []) c.whole.ensures

pub returns-in_ok-push-in-None-Some-Some-clause-joined
    : goal.returns-in_ok-push-in-None-Some-Some-clause-joined
returns-in_ok-push-in-None-Some-Some-clause-joined c =
    rw (c.in_ok-push-in-None-Some-Some.ensures.items, c.new.ensures, keys c, by c)
    (joined-new c.args.pairs.now c.args.entries.now.items (key c) c.args.event.now c.args.joined.id
    c.args.joined.call c.args.rows.now.in_value _ c.requires.numbered (none c) refl)

pub returns-in_ok-push-in-None-Some-Some-clause-entered
    : goal.returns-in_ok-push-in-None-Some-Some-clause-entered
returns-in_ok-push-in-None-Some-Some-clause-entered c =
    rw (
      c.in_ok-push-in-None-Some-Some.ensures.items,
      c.new.ensures,
      keys c,
      by c,
    ) (entered-new c.args.pairs.now c.args.entries.now.items (key c) c.args.event.now c.args.joined.id
    c.args.joined.call c.requires.numbered (none c))

pub returns-in_ok-push-in-None-Some-Some-clause-numbered
    : goal.returns-in_ok-push-in-None-Some-Some-clause-numbered
returns-in_ok-push-in-None-Some-Some-clause-numbered c =
    rw (
      c.in_ok-push-in-None-Some-Some.ensures.items,
      keys c,
    ) (omega (
      arith,
      c.requires.numbered,
      length-append c.args.pairs.now (((key c).0, whole (key c).1) ∷ []),
      length-append c.args.entries.now.items (c.new.result ∷ []),
    ))

pub returns-in_ok-push-in-None-Some-Some-clause-number
    : goal.returns-in_ok-push-in-None-Some-Some-clause-number
returns-in_ok-push-in-None-Some-Some-clause-number c =
    let at : c.len-number.result ≡ length c.args.pairs.now =
    omega (arith, c.len-number.ensures, c.requires.numbered) in
    rw (keys c, by c) (ap Some at ∙ sym (number-new c.args.pairs.now (key c) (none c)))

-- ---- none

pub returns-in-None-Some-None-clause-joined : goal.returns-in-None-Some-None-clause-joined
returns-in-None-Some-None-clause-joined c =
    rw (key-without c.args.event.now c.in-None-Some-None.is-2) (
      item-push_none c.args.rows.now.in_value,
      λ q. refl,
    )

pub returns-in-None-Some-None-2-clause-joined : goal.returns-in-None-Some-None-2-clause-joined
returns-in-None-Some-None-2-clause-joined c =
    rw (key-none c.args.event.now c.in-None-Some-None.is-1) (
      item-push_none c.args.rows.now.in_value,
      λ q. refl,
    )
