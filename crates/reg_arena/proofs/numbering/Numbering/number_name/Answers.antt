-- The place among the keys is the number, and a new name comes last.
use Rattle.std.proofs.Common.{◌≡◌, ◌∷◌, ◌++◌, [], length, bytes_eq, Some, sym, ap, subst, ◌∙◌, arith}
use Rattle.std.specs.Prelude.{if◌then◌else◌}
use Rattle.std.specs.List.{list_any, position, position_or_len}
use Rattle.reg_arena.proofs.ListLemmas.Keys.{place-none, place-some, added-last}
use Rattle.reg_arena.proofs.Numbered.{with-known, with-new}
use Rattle.reg_arena.proofs.numbering.Numbering.number_name.Goals as goal

pub returns-in-Some-clause-number : goal.returns-in-Some-clause-number
returns-in-Some-clause-number c =
    let found =
    subst (λ names. Some c.in-Some.number ≡ position (bytes_eq c.args.name.now) names) c.self.view_is
    c.in-Some.ensures.index in
    sym (place-some (bytes_eq c.args.name.now) c.args.self.now c.in-Some.number found).0

pub returns-in-Some-clause-names : goal.returns-in-Some-clause-names
returns-in-Some-clause-names c =
    let found =
    subst (λ names. Some c.in-Some.number ≡ position (bytes_eq c.args.name.now) names) c.self.view_is
    c.in-Some.ensures.index in
    let place = place-some (bytes_eq c.args.name.now) c.args.self.now c.in-Some.number found in
    sym (with-known c.args.self.now c.args.name.now (omega (arith, place.0, place.1)))

pub returns-in_ok-insert-in-None-clause-number : goal.returns-in_ok-insert-in-None-clause-number
returns-in_ok-insert-in-None-clause-number c =
    let keys = c.self.inside.names.keys in
    c.len-number.ensures.len
    ∙ (sym (place-none (bytes_eq c.args.name.now) keys c.in-None.ensures.index)
    ∙ ap (position_or_len (bytes_eq c.args.name.now)) c.self.view_is)

pub returns-in_ok-insert-in-None-clause-names : goal.returns-in_ok-insert-in-None-clause-names
returns-in_ok-insert-in-None-clause-names c =
    let names = c.args.self.now in
    let name = c.args.name.now in
    let keys = c.self.inside.names.keys in
    let added = c.in_ok-new-in-None.ensures ∙ c.as_str.ensures.text in
    let absent = place-none (bytes_eq name) keys c.in-None.ensures.index in
    let new = subst (λ names. position_or_len (bytes_eq name) names ≡ length names) c.self.view_is absent in
    c.in_ok-insert-in-None.ensures.keys
    ∙ (ap (λ key. if list_any (bytes_eq key) keys then keys else keys ++ key ∷ []) added
    ∙ (added-last (bytes_eq name) keys name absent
    ∙ (ap (λ names. names ++ name ∷ []) c.self.view_is ∙ sym (with-new names name new))))
